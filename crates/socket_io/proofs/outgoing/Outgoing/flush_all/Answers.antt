use Rattle.std.proofs.Common.{◌∙◌, refl}
use Rattle.socket_io.proofs.Passing.{not_begun, goes_on}
use Rattle.socket_io.proofs.outgoing.Outgoing.flush_all.Goals as goal

pub loop-self-init : goal.loop-self-init
loop-self-init g c = (not_begun _ c.args.self.now (rw (← c.self.view_is) c.self.invariant.1), refl)

pub loop-self-preserved : goal.loop-self-preserved
loop-self-preserved g c = (goes_on _ _ _ c.args.self.now c.loop-self.self c.flush.new.self c.loop-self.invariant.0 c.in_ok-flush.ensures.passes, c.flush.ensures.left ∙ c.loop-self.invariant.1)
