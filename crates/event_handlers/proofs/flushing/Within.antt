-- Octets that go next on a stream of which something can go are within its windows.
use Rattle.std.proofs.Common.{◌≡◌, ℕ, ◌≤◌, Bool, true, false, ◌==◌, if◌then◌else◌, List, [], ◌∷◌, length, Option, Some, None, refl, sym, ◌∙◌, ap, subst, ℤ, pos, arith}
use Rattle.std.specs.Prelude.{◌≤ℤ◌}
use Rattle.std.proofs.lemmas.Bool.{eqb-true}
use Rattle.std.proofs.lemmas.Int.{ints}
use Rattle.theory_errors.specs.Judging.{window_in}
use Rattle.theory_errors.specs.Rows.{find as find_row}
use Rattle.theory_responses.specs.Outbox.{Outbox, Part, can_go, part_of, octets_of}
use Rattle.theory_responses.specs.Outbox.Outbox.{Before, Behind, Over}
use Rattle.theory_responses.specs.Outbox.Part.{Early, Octets, Trailing}
use Rattle.theory_responses.specs.State.{Kept, State, Windows, find, are_open, can_turn}
use Rattle.theory_responses.proofs.Deciding.{chosen_few}
use Rattle.connection_state.specs.Inbound.{Inbound}
use Rattle.connection_state.specs.Sending.{AreWithin}
use Rattle.send_queue.specs.Asked.{part_for, windows_over}
use Rattle.event_handlers.proofs.flushing.Performing.{HasReady, can_ready, part_here}
use Rattle.event_handlers.specs.flushing.Changes.{AreOctetsPart}

-- the stream that is found has the id
found_id : (id : ℕ) (ks : List Kept) (k : Kept) → find id ks ≡ Some k → k.id ≡ id
found_id id [] k found = (let clash : ◌≡◌ {A = Option Kept} None (Some k) = found in cc)
found_id id (x ∷ ks) k found = by (x.id == id) refl found (found_id id ks k)
  where
    by : (b : Bool) → (x.id == id) ≡ b → (if b then Some x else find id ks) ≡ Some k → (find id ks ≡ Some k → k.id ≡ id) → k.id ≡ id
    by true same found more = let is : x ≡ k = cc in ap (λ (y : Kept). y.id) (sym is) ∙ eqb-true x.id id same
    by false apart found more = more found

-- octets go only where the windows are open
open_for : (windows : Bool) (most : ℕ) (box : Outbox) (octets : List ℕ) (ends : Bool) → part_of most box ≡ Some (Octets octets ends) → can_go windows box ≡ true → (length octets == 0) ≡ false → windows ≡ true
open_for windows most (Before (first ∷ interims) head body whole) octets ends part can some = (let clash : ◌≡◌ {A = Option Part} (Some (Early first)) (Some (Octets octets ends)) = part in cc)
open_for windows most (Before [] (Some head) body whole) octets ends part can some = cc
open_for windows most (Before [] None body whole) octets ends part can some = cc
open_for windows most (Behind (octet ∷ rest) whole) octets ends part can some = can
open_for windows most (Behind [] (Some [])) octets ends part can some =
    let none : octets_of (Octets octets ends) ≡ [] = ap (λ (o : Option Part). octets_if o) (sym part) in
    absurd (let clash : true ≡ false = sym (ap (λ (xs : List ℕ). length xs == 0) none) ∙ some in cc)
  where
    octets_if : Option Part → List ℕ
    octets_if None = []
    octets_if (Some p) = octets_of p
open_for windows most (Behind [] (Some (field ∷ fields))) octets ends part can some = (let clash : ◌≡◌ {A = Option Part} (Some (Trailing (field ∷ fields))) (Some (Octets octets ends)) = part in cc)
open_for windows most (Behind [] None) octets ends part can some = cc
open_for windows most Over octets ends part can some = cc

below : (count most : ℕ) (window : ℤ) → count ≤ most → pos most ≤ℤ window → pos count ≤ℤ window
below count most window few fits = omega (arith, ints, few, fits)

-- Octets are within both windows where the most that may go is, if they are open.
pub octets_within : (inbound : Inbound) (s : State) (id most : ℕ) (octets : List ℕ) (ends : Bool) → can_turn (windows_over inbound.rows inbound.first_size inbound.window) s id ≡ true → part_for most id s.kept ≡ Some (Octets octets ends)
    → (are_open (windows_over inbound.rows inbound.first_size inbound.window) id ≡ true → pos most ≤ℤ inbound.window) → (are_open (windows_over inbound.rows inbound.first_size inbound.window) id ≡ true → pos most ≤ℤ window_in inbound.first_size (find_row inbound.rows id))
    → AreWithin inbound id (length octets)
octets_within inbound s id most octets ends can next shared own = record {
  connection = λ some. below (length octets) most inbound.window few (shared (is_open some));
  stream = λ some. below (length octets) most (window_in inbound.first_size (find_row inbound.rows id)) few (own (is_open some));
}
  where
    it : HasReady (windows_over inbound.rows inbound.first_size inbound.window) s.kept id
    it = can_ready (windows_over inbound.rows inbound.first_size inbound.window) s id can

    part : part_of most it.stream.box ≡ Some (Octets octets ends)
    part = part_here most id s.kept it.stream (Octets octets ends) it.found next

    few : length octets ≤ most
    few = chosen_few most it.stream.box (Octets octets ends) part

    is_open : (length octets == 0) ≡ false → are_open (windows_over inbound.rows inbound.first_size inbound.window) id ≡ true
    is_open some =
        ap (λ n. are_open (windows_over inbound.rows inbound.first_size inbound.window) n) (sym (found_id id s.kept it.stream it.found))
        ∙ open_for (are_open (windows_over inbound.rows inbound.first_size inbound.window) it.stream.id) most it.stream.box octets ends part it.can some

-- a part that is these octets
pub octets_are : (part : Part) (octets : List ℕ) (ends : Bool) → ◌≡◌ {A = Option Part} (Some part) (Some (Octets octets ends)) → AreOctetsPart (Some part) octets ends
octets_are part octets ends same = subst (λ (o : Option Part). AreOctetsPart o octets ends) (sym same) (refl, refl)

-- no more octets go than may
pub octets_few : (windows : Windows) (s : State) (id most : ℕ) (octets : List ℕ) (ends : Bool) → can_turn windows s id ≡ true → part_for most id s.kept ≡ Some (Octets octets ends) → length octets ≤ most
octets_few windows s id most octets ends can next =
    let it = can_ready windows s id can in
    chosen_few most it.stream.box (Octets octets ends) (part_here most id s.kept it.stream (Octets octets ends) it.found next)
