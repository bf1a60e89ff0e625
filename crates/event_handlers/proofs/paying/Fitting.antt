-- Octets that came with the last frame, and those that are to go back, may be given back: the receiving windows have room for them.
use Rattle.std.proofs.Common.{◌≡◌, ℕ, ◌+◌, ◌≤◌, Bool, true, false, ◌||◌, ◌==◌, List, [], ◌∷◌, refl, sym, ◌∙◌, ap, subst, if◌then◌else◌, arith}
use Rattle.std.specs.Prelude.{ℤ, pos, ◌+ℤ◌, ◌-ℤ◌, ◌≤ℤ◌, sum_by}
use Rattle.std.proofs.lemmas.Bool.{eq-eqb, eqb-true}
use Rattle.std.proofs.lemmas.Int.{ints}
use Rattle.model.specs.Setup.{Setup, own_window}
use Rattle.model.specs.Known.{Known}
use Rattle.model.specs.Lifetimes as lives
use Rattle.model.specs.Limits.{greatest_window}
use Rattle.model.specs.WindowsOnTape.{back_on}
use Rattle.theory_errors.specs.Summary.{Stream as Kept, Summary, summary_of}
use Rattle.theory_errors.specs.Rows as rows
use Rattle.theory_errors.specs.Rows.{Row}
use Rattle.theory_errors.specs.Rule.{known_of}
use Rattle.theory_errors.specs.Book.{Book, ledger_of}
use Rattle.theory_errors.specs.Tidy.{AreKept}
use Rattle.theory_errors.specs.Told as theory_errors
use Rattle.theory_errors.proofs.Knowing.{known_so}
use Rattle.theory_errors.proofs.Telling.{book_told, active_told, live_told}
use Rattle.theory_receive_windows.specs.State as theory_receive_windows
use Rattle.theory_receive_windows.specs.State.{held, fresh_of}
use Rattle.theory_receive_windows.proofs.Resting.{Receiving, shared_room, own_room}
use Rattle.streams.specs.Asked.{has, is_active}
use Rattle.streams.specs.Sending.{AreReturnable}
use Rattle.theory.specs.Moves.{Move}
use Rattle.theory.specs.State.{State, conducts, tape_of}
use Rattle.theory.specs.Rule.{rooms_in}
use Rattle.theory.specs.Steps.{told_by}
use Rattle.theory.proofs.Telling.{all_moved}
use Rattle.refinement.specs.View.{View, Pending, GoBack, Leads}
use Rattle.refinement.proofs.Staying.{rows_kept}
use Rattle.refinement.proofs.Where.{windows_here}

-- octets that are among what is missing in a window fit in it
fit_again : (own : ℕ) (room : ℤ) (rest count : ℕ) → room ≡ pos own -ℤ pos rest → count ≤ rest → (room +ℤ pos count) ≤ℤ pos own
fit_again own room rest count is le = omega (arith, ints, is, le)

-- those that are among what is missing of what a window began with
fit_below : (back : ℤ) (rest count : ℕ) → back ≡ pos 0 -ℤ pos rest → count ≤ rest → (back +ℤ pos count) ≤ℤ pos greatest_window
fit_below back rest count is le = omega (arith, ints, is, le)

-- what is missing of a window is what didn't go back
missing : (own : ℕ) (back : ℤ) (rest : ℕ) → (pos own +ℤ back) ≡ pos own -ℤ pos rest → back ≡ pos 0 -ℤ pos rest
missing own back rest is = omega (arith, ints, is)

among : (a c d n m count : ℕ) → c ≡ n → d ≡ m → count ≡ n + m → count ≤ a + c + d
among a c d n m count first second all = omega (arith, first, second, all)

within : (a c d count : ℕ) → c ≡ count → count ≤ a + c + d
within a c d count same = omega (arith, same)

within_debt : (a c d count : ℕ) → d ≡ count → count ≤ a + c + d
within_debt a c d count same = omega (arith, same)

module _ (setup : Setup) (run : List Move) (kept : View) (pending : Pending) (s : State) (leads : Leads setup run kept pending s) where
  abbrev known : Known
  known = known_of setup (conducts run)

  -- moves of windows led to what is kept of them
  abbrev at : theory_receive_windows.State
  at = rooms_in (told_by s) s

  receives : Receiving setup.more_room setup.passing (tape_of run) at
  receives = windows_here setup run s leads.stands leads.so

  stream_is : at.stream ≡ kept.inbound.last
  stream_is = ap (λ (b : Book). b.last) leads.keeps.book

  -- the book tells the tape
  told : theory_errors.IsTold (ledger_of setup (conducts run)).book (summary_of known (tape_of run))
  told = book_told known (conducts run) (known_so setup (conducts run)) (all_moved known run leads.stands.allowed) (ap (λ (x : State). x.ledger.book.ends) leads.stands.is ∙ leads.stands.goes_on)

  same_book : (ledger_of setup (conducts run)).book.rows ≡ kept.inbound.rows
  same_book = ap (λ (x : State). x.ledger.book.rows) leads.stands.is ∙ ap (λ (b : Book). b.rows) leads.keeps.book

  -- receiving windows begin with as much as the setup says
  pub own_is : kept.inbound.own ≡ own_window setup
  own_is =
      ap (λ (b : Book). b.own) (sym leads.keeps.book)
      ∙ ap (λ (x : State). x.ledger.book.own) (sym leads.stands.is)
      ∙ ap (λ (u : Summary). u.own) told.same

  -- The octets that came, and those that are to go back, may go back on the connection.
  pub fits_shared : (count : ℕ) → count ≡ pending.fresh + pending.shared → (kept.inbound.room +ℤ pos count) ≤ℤ pos kept.inbound.own
  fits_shared count all =
      subst (λ n. (kept.inbound.room +ℤ pos count) ≤ℤ pos n) (sym own_is) (fit_again (own_window setup) kept.inbound.room (sum_by (held at) at.live + at.count + at.debt) count
      (ap (λ (b : Book). b.room) (sym leads.keeps.book)
      ∙ ap (λ (x : State). x.ledger.book.room) (sym leads.stands.is)
      ∙ ap (λ (u : Summary). u.room) told.same
      ∙ shared_room setup.more_room setup.passing (tape_of run) at receives)
      (among (sum_by (held at) at.live) at.count at.debt pending.fresh pending.shared count leads.keeps.credited.fresh leads.keeps.credited.shared all))

  on_tape : (id : ℕ) → is_active kept.inbound.rows id ≡ true → lives.is_active id (tape_of run) ≡ true
  on_tape id live = sym (active_told known (tape_of run) (ledger_of setup (conducts run)).book told id) ∙ ap (λ (rs : List Row). is_active rs id) same_book ∙ live

  -- what is missing in the window of an active stream
  room_is : (id : ℕ) → is_active kept.inbound.rows id ≡ true → (rows.find kept.inbound.rows id).room ≡ pos 0 -ℤ pos (held at id + fresh_of at id + (at.row id).debt)
  room_is id live =
      ap (λ (rs : List Row). (rows.find rs id).room) (sym same_book)
      ∙ ap (λ (k : Kept). k.room) (live_told known (tape_of run) (ledger_of setup (conducts run)).book told id (on_tape id live))
      ∙ missing (own_window setup) (back_on id (tape_of run)) (held at id + fresh_of at id + (at.row id).debt) (own_room setup.more_room setup.passing (tape_of run) at id receives (on_tape id live))

  -- And on the stream of the last frame those that came with that, while it is active.
  pub fits_own : is_active kept.inbound.rows kept.inbound.last ≡ true → AreReturnable pending.fresh (rows.find kept.inbound.rows kept.inbound.last)
  fits_own live =
      fit_below (rows.find kept.inbound.rows kept.inbound.last).room (held at kept.inbound.last + fresh_of at kept.inbound.last + (at.row kept.inbound.last).debt) pending.fresh (room_is kept.inbound.last live)
      (within (held at kept.inbound.last) (fresh_of at kept.inbound.last) (at.row kept.inbound.last).debt pending.fresh (ap (λ b. if b then at.count else 0) (eq-eqb at.stream kept.inbound.last stream_is) ∙ leads.keeps.credited.fresh))

  -- So may those that are to go back on a stream.
  pub fits_due : (id : ℕ) → GoBack kept.inbound id → AreReturnable (pending.own id) (rows.find kept.inbound.rows id)
  fits_due id back =
      fit_below (rows.find kept.inbound.rows id).room (held at id + fresh_of at id + (at.row id).debt) (pending.own id) (room_is id back.active)
      (within_debt (held at id) (fresh_of at id) (at.row id).debt (pending.own id) (leads.keeps.credited.own id back))

-- a stream that was opened isn't the connection
stream_of_row : (id : ℕ) (all : List Row) → AreKept all → has all id ≡ true → (id == 0) ≡ false
stream_of_row id [] kept there = absurd (let no : false ≡ true = there in cc)
stream_of_row id (row ∷ all) kept there = by (row.id == id) refl there (λ rest. stream_of_row id all kept.2 rest)
  where
    by : (b : Bool) → (row.id == id) ≡ b → (b || has all id) ≡ true → (has all id ≡ true → (id == 0) ≡ false) → (id == 0) ≡ false
    by true own there more = ap (λ n. n == 0) (sym (eqb-true row.id id own)) ∙ kept.0.of_stream
    by false apart there more = more there

pub of_stream : (setup : Setup) (run : List Move) (kept : View) (pending : Pending) (s : State) → Leads setup run kept pending s → (id : ℕ) → has kept.inbound.rows id ≡ true → (id == 0) ≡ false
of_stream setup run kept pending s leads id there = stream_of_row id kept.inbound.rows (subst AreKept (ap (λ (b : Book). b.rows) leads.keeps.book) (rows_kept setup run s leads.stands)) there
