use Rattle.std.specs.Prelude.{None, Ok}
use Rattle.sockets.specs.Performed.{MovesOn}
use Rattle.sockets.proofs.Moving.{goes_still, moves_still, moves_rise}
use Rattle.sockets.proofs.Performing.{ok_then}
use Rattle.sockets.proofs.Queueing.{client_still}
use Rattle.sockets.proofs.connections.Sockets.hear.Goals as goal

pub returns-then-not-has-clause-moves : goal.returns-then-not-has-clause-moves
returns-then-not-has-clause-moves g c = moves_still _ _ _ _

pub returns-clause-rising : goal.returns-clause-rising
returns-clause-rising g c =
    let client = c.args.self.now.client in
    let moves : MovesOn g.S.Socket.left g.S.Socket.held (Ok None) client c.args.self.now.upstreams.items client c.heed.new.upstreams.items = record { client_is = goes_still _ _ client; others = c.heed.ensures.goes } in
    moves_rise _ _ (Ok None) _ _ _ _ moves

pub returns-clause-queued : goal.returns-clause-queued
returns-clause-queued g c =
    ok_then c.heed.result
    (λ listed. λ before. record { client_is = client_still _ _ _ _ c.heed.ensures.ready before.client_is; all_are = listed before.all_are })
    c.heed.ensures.listed
