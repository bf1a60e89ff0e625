-- A stream whose connection was given to another since was ended by the client: so of its octets that wait none go back on the stream itself.
use Rattle.std.proofs.Common.{◌≡◌, ℕ, ◌<◌, true, false, not, List, [], ◌∷◌, Option, Some, None, refl, sym, ◌∙◌, ap, inl, inr, if◌then◌else◌, arith}
use Rattle.std.proofs.lemmas.Bool.{eq-eqb}
use Rattle.std.proofs.lemmas.Bool.Decides.{eqb_tells}
use Rattle.model.specs.Setup.{Setup}
use Rattle.model.specs.Tapes.{Entry}
use Rattle.model.specs.Openings.{Opened, exchanges, given, connection_of}
use Rattle.model.specs.Available.{IsIn}
use Rattle.model.specs.Known.{Known}
use Rattle.model.specs.Lifetimes.{is_active, is_ended_by_client}
use Rattle.theory_errors.specs.Book.{Book, summary_in}
use Rattle.theory_responses.specs.Sight.{IsRightOf, sight_in}
use Rattle.theory_receive_windows.specs.Marks.{released}
use Rattle.theory_receive_windows.specs.State as windows
use Rattle.theory_receive_windows.specs.State.{is_live, add, with_taken}
use Rattle.theory_receive_windows.proofs.Resting.{Receiving}
use Rattle.theory_receive_windows.proofs.Incoming.{live_among}
use Rattle.window_credit.specs.Sides.{Side, find}
use Rattle.window_credit.specs.Standing.{IsRow}
use Rattle.window_credit.proofs.Telling as telling
use Rattle.window_credit.proofs.Taking.{others_stay}
use Rattle.streams.specs.Asked.{is_active as is_active_row}
use Rattle.theory.specs.Moves.{Move}
use Rattle.theory.specs.State.{State, tape_of}
use Rattle.theory.specs.Rule.{rooms_in}
use Rattle.theory.specs.Steps.{told_by}
use Rattle.refinement.specs.View.{View, Pending, GoBack, newest_in, Leads}
use Rattle.refinement.proofs.Connected.{none_reached}
use Rattle.refinement.proofs.Sound as sound
use Rattle.refinement.proofs.Where.{own, own_led, right_here, windows_here, live_here}

-- A stream that has a connection was given it.
pub record WasGiven (id : ℕ) (os : List Opened) : Type 0 where
  pub o : Opened
  pub there : IsIn o os
  pub stream : o.stream ≡ id
  pub number : o.k ≡ connection_of id os

pub was_given : (id : ℕ) (os : List Opened) → (connection_of id os ≡ 0 → ⊥) → WasGiven id os
was_given id [] some = absurd (some refl)
was_given id (p ∷ os) some = elim (eqb_tells p.stream id) [
  | inl same ↦ record { o = p; there = inl refl; stream = same.1; number = sym (ap (λ b. if b then p.k else connection_of id os) same.0) }
  | inr off ↦ (
      let more : WasGiven id os = was_given id os (λ none. some (ap (λ b. if b then p.k else connection_of id os) off.0 ∙ none)) in
      record { o = more.o; there = inr more.there; stream = more.stream; number = more.number ∙ sym (ap (λ b. if b then p.k else connection_of id os) off.0) })
]

module _ (setup : Setup) (run : List Move) (kept : View) (pending : Pending) (s : State) (leads : Leads setup run kept pending s) (id : ℕ) (side : Side) (found : find id kept.marks ≡ Some side) (past : side.past ≡ true) where
  abbrev t : List Entry
  t = tape_of run

  abbrev rooms : windows.State
  rooms = rooms_in (told_by s) s

  abbrev known : Known
  known = own setup run s leads.stands leads.so

  receives : Receiving setup.more_room setup.passing t rooms
  receives = windows_here setup run s leads.stands leads.so

  right : IsRightOf known t (sight_in (told_by s))
  right = right_here setup run s leads.stands leads.so

  row : IsRow (newest_in s) rooms.out rooms.took id (rooms.row id) side
  row = leads.marked.stand.rows id side found

  active : is_active id t ≡ true
  active = sym (live_among setup.more_room setup.passing t rooms id receives.keeping) ∙ leads.marked.stand.live id side found

  has : connection_of id (exchanges t) ≡ side.k
  has = sym (receives.keeping.streams id active).connection ∙ row.k

  its : WasGiven id (exchanges t)
  its = was_given id (exchanges t) (λ none. let some : 0 < side.k = leads.marked.some id side found in let zero : side.k ≡ 0 = sym has ∙ none in omega (arith, some, zero))

  -- another stream was given its connection last
  older : given its.o.k (exchanges t) ≡ its.o.stream → ⊥
  older same =
      let last : newest_in s side.k ≡ id = ap (λ os. given side.k os) right.given ∙ ap (λ n. given n (exchanges t)) (sym (its.number ∙ has)) ∙ same ∙ its.stream in
      let clash : true ≡ false = sym past ∙ row.past ∙ ap not (eq-eqb (newest_in s side.k) id last) in
      cc

  -- The client has ended it.
  pub ended : is_ended_by_client id t ≡ true
  ended = ap (λ n. is_ended_by_client n t) (sym its.stream) ∙ sound.past_ended known run s (own_led setup run s leads.stands leads.so) its.o its.there older

  -- So none of its octets go back on it.
  pub none_back : GoBack kept.inbound id → ⊥
  none_back back =
      let clash : true ≡ false = sym (right.ended id active ∙ ended) ∙ ap (λ (b : Book). (sight_in (summary_in b)).ended id) leads.keeps.book ∙ back.goes_on in
      cc

-- Where octets of a connection are taken nothing goes back on another stream than the one that it was given to last.
module _ (setup : Setup) (run : List Move) (kept : View) (pending : Pending) (s : State) (leads : Leads setup run kept pending s) (k count id : ℕ) (another : newest_in s k ≡ id → ⊥) (back : GoBack kept.inbound id) where
  abbrev all : windows.State
  all = rooms_in (told_by s) s

  live : is_live all id ≡ true
  live = live_here setup run s leads.stands leads.so id ∙ ap (λ (b : Book). is_active_row b.rows id) leads.keeps.book ∙ back.active

  pub own_stays : ((with_taken all k count).row id).debt ≡ (all.row id).debt
  own_stays = by (find id kept.marks) refl
    where
      by : (o : Option Side) → find id kept.marks ≡ o → ((with_taken all k count).row id).debt ≡ (all.row id).debt
      by None none =
          let zero : released (add k count all.took (all.row id).k) (all.row id).queue ≡ 0 = ap (released (add k count all.took (all.row id).k)) (leads.marked.stand.rest id live none) in
          omega (arith, zero)
      by (Some side) there = elim (eqb_tells side.k k) [
        | inl own ↦ absurd (none_back setup run kept pending s leads id side there (telling.past_is (newest_in s) kept.marks all leads.marked.stand id side there (λ last. another (ap (newest_in s) (sym own.1) ∙ last))) back)
        | inr off ↦ others_stay all k count id (none_reached setup run kept pending s leads) live (λ same. off.1 (sym (leads.marked.stand.rows id side there).k ∙ same))
      ]
