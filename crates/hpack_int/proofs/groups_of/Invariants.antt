use Rattle.hpack_int.proofs.Written.{Dividing}
use Rattle.hpack_int.proofs.groups_of.Given as goal

abbrev pub invariant-loop-rest : goal.invariant-loop-rest
invariant-loop-rest l = Dividing l.value l.rest l.count l.groups

abbrev pub decreases-loop-rest : goal.decreases-loop-rest
decreases-loop-rest l = l.rest
