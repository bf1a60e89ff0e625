use Rattle.std.proofs.Common.{[]}
use Rattle.std.specs.Prelude.{Some}
use Rattle.sockets.proofs.Moving.{all_still, all_twice}
use Rattle.sockets.proofs.queues.note_idle_all.Goals as goal

pub loop-number-init : goal.loop-number-init
loop-number-init g c = record { goes = all_still _ _ c.args.upstreams.now.items; listed = λ ready writes all. all }

pub loop-number-preserved : goal.loop-number-preserved
loop-number-preserved g c = record {
  goes = all_twice _ _ (Some []) c.args.upstreams.now.items c.loop-number.upstreams.items _ c.loop-number.invariant.goes c.note_idle.ensures.goes;
  listed = λ ready writes all. c.note_idle.ensures.listed ready writes (c.loop-number.invariant.listed ready writes all);
}
