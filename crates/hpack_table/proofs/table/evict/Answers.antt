use Rattle.hpack_table.proofs.Kept.{no_oldest, oldest_fits, evicted, rest_size, kept_all}
use Rattle.hpack_table.proofs.table.evict.Goals as goal

pub unreachable-requires : goal.unreachable-requires
unreachable-requires c =
    no_oldest c.loop-size.fields c.loop-size.size c.args.maximum c.in_default.ensures.0 c.loop-size.invariant.total c.loop-size-test.true

pub unreachable-requires-in-None : goal.unreachable-requires-in-None
unreachable-requires-in-None c = oldest_fits c.loop-size.fields c.pop_back.new.self c.in-Some.oldest c.loop-size.size c.in-Some.ensures c.loop-size.invariant.total c.in-None.ensures

pub loop-size-preserved : goal.loop-size-preserved
loop-size-preserved c = record {
  same = evicted c.loop-size.fields c.pop_back.new.self c.args.fields.now c.in-Some.oldest c.loop-size.size c.args.maximum c.in-Some.ensures c.loop-size.invariant.total c.loop-size-test.true c.loop-size.invariant.same;
  total = rest_size c.loop-size.fields c.pop_back.new.self c.in-Some.oldest c.loop-size.size c.in-Some-room_behind.rest c.in-Some.ensures c.loop-size.invariant.total c.in-Some-room_behind.ensures.1;
}

pub returns-clause-kept : goal.returns-clause-kept
returns-clause-kept c = kept_all c.loop-size.fields c.args.fields.now c.loop-size.size c.args.maximum c.loop-size.invariant.total c.loop-size-test.false c.loop-size.invariant.same
