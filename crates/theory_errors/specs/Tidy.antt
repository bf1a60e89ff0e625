-- What rows hold, whatever came, and which entries are about another stream than a row's.
use Rattle.std.specs.Prelude.{◌≡◌, ℕ, Bool, true, false, ◌==◌, nat_lt, List, [], ◌∷◌, Option, None, is_some}
use Rattle.std.specs.List.{list_all}
use Rattle.model.specs.Tapes.{Entry}
use Rattle.model.specs.Tapes.Entry.{Came, Breached, Happened, Sent, Did}
use Rattle.model.specs.Errors.{Fault}
use Rattle.model.specs.ErrorClause.{is_fatal}
use Rattle.theory_errors.specs.Summary.{Outline, Summary}
use Rattle.theory_errors.specs.Judging.{is_over_in}
use Rattle.theory_errors.specs.Owing.{about_in}
use Rattle.theory_errors.specs.Rows.{Slot, Row, ids_of}
use Rattle.theory_errors.specs.Rows.Slot.{Live, Over}

-- Only where there is a cause, a head was out when it came.
abbrev pub IsSteady : Outline → Type 0
IsSteady outline = is_some outline.cause ≡ false → outline.head_out ≡ false

-- A slot holds what it should: a stream that isn't over, with a steady course; of one that is over it keeps nothing else.
abbrev pub IsTidy : Slot → Type 0
IsTidy (Live kept) = (is_over_in kept ≡ false) × IsSteady kept.outline
IsTidy (Over by_us) = Unit {0}

-- The row holds what it should, and is of a stream.
pub record IsRow (row : Row) : Type 0 where
  pub tidy : IsTidy row.slot
  pub of_stream : (row.id == 0) ≡ false

-- the id is above those of all rows
abbrev pub is_above_all : ℕ → List Row → Bool
is_above_all id rows = list_all (λ other. nat_lt other id) (ids_of rows)

-- Each row is so, and ids rise: each is above those of the rows before it, so it stands once.
abbrev pub AreKept : List Row → Type 0
AreKept [] = Unit {0}
AreKept (row ∷ rows) = IsRow row × (is_above_all row.id rows ≡ true) × AreKept rows

-- The entry is about another stream, and no error of the connection.
abbrev pub IsElsewhere : Summary → ℕ → Entry → Option Fault → Type 0
IsElsewhere s id (Came noted) found = ((noted.frame.id == id) ≡ false) × (is_fatal found ≡ false)
IsElsewhere s id (Breached breach) found = ⊥
IsElsewhere s id (Happened event) found = ((about_in s (Happened event) == id) ≡ false) × (found ≡ None)
IsElsewhere s id (Sent noted) found = ((noted.frame.id == id) ≡ false) × (found ≡ None)
IsElsewhere s id (Did act) found = found ≡ None
