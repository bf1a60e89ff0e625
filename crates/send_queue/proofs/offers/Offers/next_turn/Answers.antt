use Rattle.std.proofs.Common.{subst, List, ℕ, ℤ, w64}
use Rattle.std.proofs.lemmas.Int.{to_z-of_z}
use Rattle.model.specs.Turns.{IsNextTurn}
use Rattle.theory_responses.specs.State.{Kept, State, Windows, ready}
use Rattle.send_queue.specs.Places.{AreAllOffered}
use Rattle.send_queue.specs.Asked.{windows_over}
use Rattle.send_queue.proofs.OnOffer.{ready_same, rising_some}
use Rattle.send_queue.proofs.offers.Offers.next_turn.Goals as goal

pub next_of-requires : goal.next_of-requires
next_of-requires c =
    let all : AreAllOffered c.self.inside.kept.items c.among-offered.result.now = subst (λ (ks : List Kept). AreAllOffered ks c.among-offered.result.now) c.deref.ensures.value c.among-offered.ensures in
    rising_some c.self.inside.kept.items c.among-offered.result.now c.self.invariant.rising all

pub returns : goal.returns
returns c =
    let all : AreAllOffered c.self.inside.kept.items c.among-offered.result.now = subst (λ (ks : List Kept). AreAllOffered ks c.among-offered.result.now) c.deref.ensures.value c.among-offered.ensures in
    let windows : ℤ → Windows = λ z. windows_over c.args.streams.now c.args.first_size z in
    subst (λ (s : State). IsNextTurn s.last (ready (windows c.args.shared) s) c.next_of.result) c.self.view_is
    (subst (λ (ids : List ℕ). IsNextTurn c.self.inside.last ids c.next_of.result) (ready_same (windows c.args.shared) c.self.inside.last c.self.inside.kept.items c.among-offered.result.now c.self.invariant.rising all)
    (subst (λ (z : ℤ). IsNextTurn c.self.inside.last (ready (windows z) (record { kept = c.among-offered.result.now; last = c.self.inside.last })) c.next_of.result) (to_z-of_z w64 c.args.shared c.ranges.shared) c.next_of.ensures))
