use Rattle.sockets.specs.Moves.{seen_in}
use Rattle.clients.proofs.Serving.{served_from}
use Rattle.clients.proofs.listening.serve_world.Goals as goal

pub returns : goal.returns
returns g c =
    served_from g.S.Socket.left g.S.Socket.held c.args.world.now c.serve.new.world _ _ c.serve.ensures.calls_are (λ world. seen_in world.sockets) (λ before behind call step. step) c.requires.new
