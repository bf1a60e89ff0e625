use Rattle.std.proofs.Common.{◌≡◌, ◌∷◌, sym, subst, ap, ◌∙◌, arith}
use Rattle.std.specs.Prelude.{true, false}
use Rattle.sockets.specs.Sides.{Goes, lost_news}
use Rattle.sockets.specs.Performed.{AllGoOn, got_news}
use Rattle.sockets.proofs.Moving.{all_lost, all_still, moves_lost}
use Rattle.sockets.proofs.Portions.{heard_fits}
use Rattle.sockets.proofs.Events.{fits_heard, got_lost, heard_moves}
use Rattle.sockets.specs.Queues.{Grows}
use Rattle.sockets.proofs.Queueing.{rest_listed, still_queued}
use Rattle.sockets.proofs.connections.Sockets.read_client.Goals as goal

pub returns-in_err-got-clause-moves : goal.returns-in_err-got-clause-moves
returns-in_err-got-clause-moves g c =
    let us = c.args.self.now.upstreams in
    let others : AllGoOn g.S.Socket.left g.S.Socket.held lost_news us.items c.read_of_client.new.self.upstreams.items =
    subst (λ vs. AllGoOn g.S.Socket.left g.S.Socket.held lost_news us.items vs.items) (sym c.read_of_client.ensures.upstreams) (all_lost _ _ us.items us.items (all_still _ _ us.items)) in
    moves_lost _ _ c.from_residual.result _ _ us.items _ c.from_residual.ensures.0 c.in_err-got.ensures.lost others

pub returns-in_err-queue_client-clause-moves : goal.returns-in_err-queue_client-clause-moves
returns-in_err-queue_client-clause-moves g c =
    let us = c.args.self.now.upstreams in
    let others : AllGoOn g.S.Socket.left g.S.Socket.held lost_news us.items c.queue_client.new.self.upstreams.items =
    subst (λ vs. AllGoOn g.S.Socket.left g.S.Socket.held lost_news us.items vs.items) (sym (c.queue_client.ensures.upstreams ∙ c.read_of_client.ensures.upstreams)) (all_lost _ _ us.items us.items (all_still _ _ us.items)) in
    let client : Goes g.S.Socket.left g.S.Socket.held lost_news c.args.self.now.client c.queue_client.new.self.client =
    subst (λ side. Goes g.S.Socket.left g.S.Socket.held lost_news c.args.self.now.client side) (sym c.queue_client.ensures.client) (got_lost _ _ c.in_ok-got.got _ _ c.in_ok-got.ensures.told) in
    moves_lost _ _ c.from_residual-in_err-queue_client.result _ _ us.items _ c.from_residual-in_err-queue_client.ensures.0 client others

pub returns-clause-moves : goal.returns-clause-moves
returns-clause-moves g c =
    let client : Goes g.S.Socket.left g.S.Socket.held (got_news c.in_ok-got.got) c.args.self.now.client c.queue_client.new.self.client =
    subst (λ side. Goes g.S.Socket.left g.S.Socket.held (got_news c.in_ok-got.got) c.args.self.now.client side) (sym c.queue_client.ensures.client) c.in_ok-got.ensures.told in
    rw c.client_event.ensures
    (rw (ap (λ vs. vs.items) (c.queue_client.ensures.upstreams ∙ c.read_of_client.ensures.upstreams))
    (heard_moves _ _ c.in_ok-got.got _ _ c.args.self.now.upstreams.items client))

pub returns-clause-fits : goal.returns-clause-fits
returns-clause-fits g c = λ rooms. rw c.client_event.ensures (fits_heard c.in_ok-got.got rooms c.in_ok-got.ensures.fits)

pub returns-clause-queued : goal.returns-clause-queued
returns-clause-queued g c = λ before.
    let old = c.args.self.now in
    let ready = c.queue_client.new.self.ready.items in
    let grows : Grows old.ready.items ready = rw (ap (λ queue. queue.items) c.read_of_client.ensures.queues.0) at c.queue_client.ensures.ready in
    record {
      client_is = c.in_ok-queue_client.ensures.listed (λ is. absurd (let no : false ≡ true = sym c.read_of_client.ensures.queues.2 ∙ is in cc));
      all_are = rw (ap (λ queue. queue.items) (c.queue_client.ensures.writes ∙ c.read_of_client.ensures.queues.1))
          (rw (ap (λ us. us.items) (c.queue_client.ensures.upstreams ∙ c.read_of_client.ensures.upstreams))
          (rest_listed 0 0 (0 ∷ old.ready.items) old.writes.items ready old.writes.items old.upstreams.items (λ v. still_queued 0 old.ready.items ready old.writes.items v grows) (omega arith) before.all_are));
    }

pub returns-clause-within : goal.returns-clause-within
returns-clause-within g c = rw c.client_event.ensures (heard_fits _ c.in_ok-got.got c.in_ok-got.ensures.within)
