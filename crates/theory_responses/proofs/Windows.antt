-- What is read of windows is the tape's, as far as it matters to what goes and to who is ready.
use Rattle.std.proofs.Common.{◌≡◌, ℕ, ◌<◌, true, not, ◌&&◌, List, map, refl, sym, ap, ◌∙◌, subst, pos}
use Rattle.std.specs.Prelude.{Option, Some, None, is_some, length, ◌≤ℤ◌, int_lt}
use Rattle.model.specs.Messages.{Item}
use Rattle.model.specs.Tapes.{Noted, Entry}
use Rattle.model.specs.Known.{Known}
use Rattle.model.specs.Lifetimes.{is_active}
use Rattle.model.specs.WindowsOnTape.{stream_window}
use Rattle.model.specs.Limits.{high_water}
use Rattle.model.specs.Turns.{IsNextTurn}
use Rattle.theory_responses.specs.Outbox.{Part, can_go}
use Rattle.theory_responses.specs.State.{Kept, State, Windows, find, are_open, is_ready_if, can_turn, ready}
use Rattle.theory_responses.specs.Policy.{windows_on, MayGo, IsFlushed}
use Rattle.theory_responses.specs.Sight.{Sight, IsRightOf, windows_in}
use Rattle.theory_responses.proofs.Offering.{IsHeld, IsKeptIf, Offering}
use Rattle.theory_responses.proofs.Listing.{filter_same}

module _ (known : Known) (t : List Entry) (s : State) (h : Offering known t s) (sight : Sight) (right : IsRightOf known t sight) where
  -- the windows that are read, and those of the tape
  abbrev read : Windows
  read = windows_in sight

  abbrev tape : Windows
  tape = windows_on t

  -- an active stream's are open or not
  open_same : (stream : ℕ) → is_active stream t ≡ true → are_open read stream ≡ are_open tape stream
  open_same stream on = ap (λ z. int_lt (pos 0) z && int_lt (pos 0) sight.shared) (right.own stream on) ∙ ap (λ z. int_lt (pos 0) (stream_window stream t) && int_lt (pos 0) z) right.shared

  -- a stream that is found is active
  found_active : (stream : ℕ) (k : Kept) → find stream s.kept ≡ Some k → is_active stream t ≡ true
  found_active stream k found = sym (h.lives stream) ∙ ap (λ o. is_some o) found

  turn_same : (stream : ℕ) → can_turn read s stream ≡ can_turn tape s stream
  turn_same stream = by (find stream s.kept) refl
    where
      by : (o : Option Kept) → find stream s.kept ≡ o → is_ready_if read o ≡ is_ready_if tape o
      by None found = refl
      by (Some k) found =
          let on : is_active stream t ≡ true = found_active stream k found in
          let held : IsHeld known t stream k = subst (IsKeptIf known t stream) found (h.kept stream on) in
          ap (λ b. not k.cut && can_go b k.box) (ap (are_open read) held.named ∙ open_same stream on ∙ sym (ap (are_open tape) held.named))

  pub ready_same : ready read s ≡ ready tape s
  ready_same = filter_same (can_turn read s) (can_turn tape s) turn_same (map (λ (k : Kept). k.id) s.kept)

  -- a flush that is done by what is read is done by the tape
  pub flushed_by : IsFlushed read s → IsFlushed tape s
  flushed_by done = record { none_cut = λ low. done.none_cut (subst (λ n. n < high_water) (sym right.untaken) low); none_ready = λ low. sym ready_same ∙ done.none_ready (subst (λ n. n < high_water) (sym right.untaken) low) }

  -- a part that may go by what is read may by the tape
  pub goes_by : (noted : Noted) (item : Item) (part : Part) → MayGo read s noted item part → MayGo tape s noted item part
  goes_by noted item part may = record {
    kept = may.kept;
    found = may.found;
    not_cut = may.not_cut;
    next = may.next;
    is = may.is;
    turn = subst (λ ids. IsNextTurn s.last ids (Some noted.frame.id)) ready_same may.turn;
    own = λ is_data some. subst (λ z. pos (length noted.frame.payload) ≤ℤ z) (right.own noted.frame.id (found_active noted.frame.id may.kept may.found)) (may.own is_data some);
    shared = λ is_data some. subst (λ z. pos (length noted.frame.payload) ≤ℤ z) right.shared (may.shared is_data some);
  }
