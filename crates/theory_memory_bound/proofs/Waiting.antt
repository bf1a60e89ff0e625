-- Of no stream's DATA more octets wait than receiving windows have at first.
use Rattle.std.proofs.Common.{◌≡◌, ℕ, ◌+◌, ◌≤◌, Bool, true, false, ◌||◌, ◌==◌, List, [], ◌∷◌, Option, Some, None, refl, sym, ◌∙◌, ap, arith}
use Rattle.std.specs.Prelude.{ℤ, pos, ◌-ℤ◌, ◌≤ℤ◌, sum_by}
use Rattle.std.specs.List.{list_any}
use Rattle.std.proofs.lemmas.Bool.{eqb-true}
use Rattle.std.proofs.lemmas.Int.{ints}
use Rattle.std.proofs.lemmas.List.Sums.{sum_by-cons}
use Rattle.model.specs.Known.{Known}
use Rattle.model.specs.Setup.{Setup, own_window}
use Rattle.theory_errors.specs.Summary.{Summary, summary_of}
use Rattle.theory_errors.specs.Rule.{known_of}
use Rattle.theory_errors.specs.Book.{AllMoved, ledger_of}
use Rattle.theory_errors.specs.Told.{IsTold}
use Rattle.theory_errors.proofs.Knowing.{known_so}
use Rattle.theory_errors.proofs.Telling.{book_told}
use Rattle.theory_receive_windows.specs.Marks.{total}
use Rattle.theory_receive_windows.specs.State as theory_receive_windows
use Rattle.theory_receive_windows.specs.State.{held}
use Rattle.theory_receive_windows.proofs.Resting.{shared_room}
use Rattle.window_credit.specs.Sides.{Side, find, queue_if}
use Rattle.theory.specs.Moves.{Move}
use Rattle.theory.specs.State.{State, conducts, tape_of}
use Rattle.theory.specs.Rule.{rooms_in}
use Rattle.theory.specs.Steps.{told_by}
use Rattle.theory.proofs.Telling.{all_moved}
use Rattle.refinement.specs.View.{View, Pending, Leads, waiting_for}
use Rattle.refinement.proofs.Where.{windows_here}
use Rattle.theory_memory_bound.proofs.Left.{none_missing}

-- what is missing in a window that isn't overdrawn is no more than it had
within : (own : ℕ) (room : ℤ) (wait count debt : ℕ) → room ≡ pos own -ℤ pos (wait + count + debt) → pos 0 ≤ℤ room → wait ≤ own
within own room wait count debt is left = omega (arith, ints, is, left)

-- one of a list has no more than all
among : (f : ℕ → ℕ) (id : ℕ) (ids : List ℕ) → list_any (λ other. other == id) ids ≡ true → f id ≤ sum_by f ids
among f id [] there = absurd (let no : false ≡ true = there in cc)
among f id (x ∷ ids) there = by (x == id) refl there (λ behind. among f id ids behind)
  where
    by : (b : Bool) → (x == id) ≡ b → (b || list_any (λ other. other == id) ids) ≡ true → (list_any (λ other. other == id) ids ≡ true → f id ≤ sum_by f ids) → f id ≤ sum_by f (x ∷ ids)
    by true own there more = let same : f x ≡ f id = ap f (eqb-true x id own) in let all = sum_by-cons f x ids in omega (arith, same, all)
    by false off there more = let rest = more there in let all = sum_by-cons f x ids in omega (arith, rest, all)

module _ (setup : Setup) (run : List Move) (kept : View) (pending : Pending) (s : State) (leads : Leads setup run kept pending s) where
  abbrev known : Known
  known = known_of setup (conducts run)

  -- moves of windows led to what is kept of them
  abbrev at : theory_receive_windows.State
  at = rooms_in (told_by s) s

  moved : AllMoved setup (conducts run)
  moved = all_moved known run leads.stands.allowed

  on : (ledger_of setup (conducts run)).book.ends ≡ false
  on = ap (λ (x : State). x.ledger.book.ends) leads.stands.is ∙ leads.stands.goes_on

  told : IsTold (ledger_of setup (conducts run)).book (summary_of known (tape_of run))
  told = book_told known (conducts run) (known_so setup (conducts run)) moved on

  -- what waits of all active streams
  all_wait : sum_by (held at) at.live ≤ own_window setup
  all_wait =
      within (own_window setup) (ledger_of setup (conducts run)).book.room (sum_by (held at) at.live) at.count at.debt
      (ap (λ (u : Summary). u.room) told.same ∙ shared_room setup.more_room setup.passing (tape_of run) at (windows_here setup run s leads.stands leads.so))
      (none_missing setup (conducts run) moved on)

  -- and so of each
  pub each_waits : (stream : ℕ) → waiting_for stream kept ≤ own_window setup
  each_waits stream = by (find stream kept.marks) refl
    where
      by : (o : Option Side) → find stream kept.marks ≡ o → waiting_for stream kept ≤ own_window setup
      by None none = let nothing : waiting_for stream kept ≡ 0 = ap (λ (x : Option Side). total (queue_if x)) none in omega (arith, nothing)
      by (Some side) found =
          let same : waiting_for stream kept ≡ held at stream = ap (λ (x : Option Side). total (queue_if x)) found ∙ ap total (sym (leads.marked.stand.rows stream side found).queue) in
          let less = among (held at) stream at.live (leads.marked.stand.live stream side found) in
          let all = all_wait in
          omega (arith, same, less, all)
