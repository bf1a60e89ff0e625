-- Where moves led, the request of each stream whose items go on waits, if requests are passed on whole.
use Rattle.std.proofs.Common.{◌≡◌, ℕ, true, false, List, Some, None, sym, ◌∙◌, inl, inr}
use Rattle.model.specs.Setup.{Setup}
use Rattle.model.specs.Setup.Passing.{Whole as WholePassing}
use Rattle.theory_errors.specs.Rows.{Row, find}
use Rattle.h1_writer.specs.Sending.{Stage}
use Rattle.theory_requests.specs.State as theory_requests
use Rattle.theory_requests.specs.State.{Way, Held, held_of, Due, is_whole}
use Rattle.theory_requests.specs.State.Way.{Waiting, Going, Dropped}
use Rattle.theory_requests.specs.State.Due.{Nothing, ToOpen, ToUse, ToSend}
use Rattle.theory.specs.Moves.{Move}
use Rattle.theory.specs.State.{State}
use Rattle.theory.specs.Steps.{Stands}
use Rattle.refinement.specs.View.{AreSo}
use Rattle.refinement.specs.Waits.{WaitsFor}
use Rattle.refinement.specs.Ways.{GoesBy, IsHeldFor, IsDuePart}
use Rattle.refinement.proofs.Ways.{IsWaiting, IsWholeDue, found_waits, all_wait, all_due}
use Rattle.refinement.proofs.Going.{IsPart, IsHeld, DueEnded, AllGoOn}
use Rattle.refinement.proofs.HeldFor.{go_on_so, by_way}
pub use Rattle.refinement.proofs.Courses.{IsGone, behind_rows}
pub use Rattle.refinement.proofs.HeldFor.{begun_active}

-- The request waits, and isn't whole.
abbrev pub Awaits : Way → Type 0
Awaits (Waiting route text stage body) = is_whole stage ≡ false
Awaits way = ⊥

-- What is due is due for a stream whose items don't go on.
abbrev pub IsOver : List Row → ℕ → Stage → Type 0
IsOver rows stream stage = (is_whole stage ≡ true) × ((find rows stream).outline.begun ≡ true → (find rows stream).outline.over ≡ false → ⊥)

abbrev pub DueOver : List Row → Due → Type 0
DueOver rows Nothing = Unit {0}
DueOver rows (ToOpen stream route text stage) = IsOver rows stream stage
DueOver rows (ToUse k stream text stage) = IsOver rows stream stage
DueOver rows (ToSend k text) = Unit {0}

-- Each stream whose items go on is held, and isn't replied to; all that is held waits.
pub record AllWait (rows : List Row) (r : theory_requests.State) : Type 0 where
  pub waits : (id : ℕ) → (find rows id).outline.begun ≡ true → (find rows id).outline.over ≡ false → IsHeld id r.held
  pub no_cause : (id : ℕ) → (find rows id).outline.over ≡ false → (find rows id).outline.cause ≡ None
  pub all : (id : ℕ) (h : Held) → held_of id r.held ≡ Some h → Awaits h.way
  pub due : DueOver rows r.due

awaits_so : (way : Way) → IsWaiting way → IsPart way → Awaits way
awaits_so (Waiting route text stage body) waits part = part
awaits_so (Going k stage) waits part = waits
awaits_so Dropped waits part = waits

-- no connection is due for a part of a request
none_part : (id : ℕ) (due : Due) → IsWholeDue due → IsDuePart due id → ⊥
none_part id Nothing whole part = part
none_part id (ToOpen stream route text stage) whole part = let no : true ≡ false = sym whole ∙ part.1 in cc
none_part id (ToUse k stream text stage) whole part = let no : true ≡ false = sym whole ∙ part.1 in cc
none_part id (ToSend k text) whole part = part

due_over : (rows : List Row) (due : Due) → IsWholeDue due → DueEnded rows due → DueOver rows due
due_over rows Nothing whole ended = tt
due_over rows (ToOpen stream route text stage) whole ended = (whole, ended whole)
due_over rows (ToUse k stream text stage) whole ended = (whole, ended whole)
due_over rows (ToSend k text) whole ended = tt

module _ (setup : Setup) (run : List Move) (s : State) (stands : Stands setup run s) (so : AreSo setup run) (whole : setup.passing ≡ WholePassing) (open_yet : s.ledger.book.closed ≡ false) where
  pub all_so : AllWait s.ledger.book.rows s.requests
  all_so = record {
    waits = λ id begun over. elim (all.awaited id begun over) [ inl held ↦ held | inr part ↦ absurd (none_part id s.requests.due whole_due part) ];
    no_cause = all.no_cause;
    all = λ id h found. awaits_so h.way (found_waits id s.requests.held h (all_wait setup whole run s stands) found) (all.parts id h found);
    due = due_over s.ledger.book.rows s.requests.due whole_due all.due;
  }
    where
      all : AllGoOn s.ledger.book.rows s.requests
      all = go_on_so setup run s stands so open_yet

      whole_due : IsWholeDue s.requests.due
      whole_due = all_due setup whole run s stands

  -- The request of a stream whose items go on waits for their end.
  pub waits_for : (id : ℕ) → (find s.ledger.book.rows id).outline.begun ≡ true → (find s.ledger.book.rows id).outline.over ≡ false → WaitsFor (find s.ledger.book.rows id).outline id s.requests.held
  waits_for id begun over =
      let held : IsHeldFor (find s.ledger.book.rows id).outline id s.requests.held = by_way setup run s stands so id begun (all_so.waits id begun over) in
      on held.way held.found held.goes (all_so.all id _ held.found)
    where
      on : (way : Way) → held_of id s.requests.held ≡ Some (record { id = id; way = way }) → GoesBy (find s.ledger.book.rows id).outline way → Awaits way → WaitsFor (find s.ledger.book.rows id).outline id s.requests.held
      on (Waiting route text stage body) found goes awaits = record { route = route; text = text; stage = stage; body = body; found = found; part = goes.part; may_end = goes.may_end }
      on (Going k stage) found goes awaits = absurd awaits
      on Dropped found goes awaits = absurd awaits
