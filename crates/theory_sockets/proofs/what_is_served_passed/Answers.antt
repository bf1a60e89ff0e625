use Rattle.theory_sockets.proofs.Serving.{served}
use Rattle.theory_sockets.proofs.what_is_served_passed.Goals as goal

pub returns : goal.returns
returns g c = λ seen by setup outcome begun world new was.
    served g.S.Socket.left g.S.Socket.held g.W.World.moves g.W.World.hears_idle_first g.W.World.could_read g.W.World.heard_at g.W.World.looks seen by setup outcome begun world new was
