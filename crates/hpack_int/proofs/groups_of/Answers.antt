use Rattle.std.proofs.Common.{arith}
use Rattle.hpack_int.proofs.Written.{divides, divided}
use Rattle.hpack_int.proofs.groups_of.Goals as goal

pub loop-rest-preserved : goal.loop-rest-preserved
loop-rest-preserved c = divides c.args.value c.loop-rest.rest c.loop-rest.count c.loop-rest.groups (omega (arith, c.ranges.value)) c.loop-rest-test.true c.loop-rest.invariant

pub returns : goal.returns
returns c = divided c.args.value c.loop-rest.rest c.loop-rest.count c.loop-rest.groups c.loop-rest-test.false c.loop-rest.invariant
