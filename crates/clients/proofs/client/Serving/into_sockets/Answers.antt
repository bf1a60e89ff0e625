use Rattle.std.proofs.Math.Logic.{∥∥₁_map}
use Rattle.clients.proofs.Serving.{told}
use Rattle.clients.proofs.client.Serving.into_sockets.Goals as goal

pub returns : goal.returns
returns g c = ∥∥₁_map c.args.self.stands (told g.S.Socket.left g.S.Socket.held _ _)
