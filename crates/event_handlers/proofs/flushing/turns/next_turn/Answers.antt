use Rattle.std.proofs.Common.{subst, w64}
use Rattle.std.proofs.lemmas.Int.{to_z-of_z}
use Rattle.model.specs.Turns.{IsNextTurn}
use Rattle.theory_responses.specs.State.{ready}
use Rattle.send_queue.specs.Asked.{windows_over}
use Rattle.event_handlers.proofs.flushing.turns.next_turn.Goals as goal

pub returns : goal.returns
returns c =
    let here = c.session.inside in
    rw (← c.session.view_is) (
    subst (λ rows. IsNextTurn here.offers.last (ready (windows_over rows here.inbound.first_size here.inbound.window) here.offers) c.next_turn.result) c.streams.ensures.is (
    subst (λ first. IsNextTurn here.offers.last (ready (windows_over c.streams.result.now first here.inbound.window) here.offers) c.next_turn.result) c.first_size-first_size.ensures.is (
    subst (λ shared. IsNextTurn here.offers.last (ready (windows_over c.streams.result.now c.first_size-first_size.result shared) here.offers) c.next_turn.result) c.window-shared.ensures.is (
    subst (λ shared. IsNextTurn here.offers.last (ready (windows_over c.streams.result.now c.first_size-first_size.result shared) here.offers) c.next_turn.result) (to_z-of_z w64 c.window-shared.result (record { sfits = c.window-shared.type_inv }))
    c.next_turn.ensures))))
