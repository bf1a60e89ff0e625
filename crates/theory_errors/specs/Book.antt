-- The book: all that a program keeps, and the rule of `theory_errors` over it. It names no tape, and no function of ids but its rows.
use Rattle.std.specs.Prelude.{◌≡◌, ℕ, Bool, true, false, List, [], ◌∷◌, Option, None, ℤ, is_some}
use Rattle.model.specs.Frames.{Frame, settings_frame}
use Rattle.model.specs.Setup.{Setup}
use Rattle.model.specs.Tapes.{Note, Entry}
use Rattle.model.specs.Tapes.Note.{Fields, Undecodable}
use Rattle.model.specs.Tapes.Entry.{Came, Breached, Happened, Sent, Did}
use Rattle.model.specs.Decoding.{Partial}
use Rattle.model.specs.Openings.{Opened}
use Rattle.model.specs.Lifetimes.{may_open}
use Rattle.model.specs.ErrorClause.{is_fatal}
use Rattle.theory_errors.specs.Summary.{Summary}
use Rattle.theory_errors.specs.Judging.{is_active_in, completed_in}
use Rattle.theory_errors.specs.Owing.{about_in, fault_in, must_end_in}
use Rattle.theory_errors.specs.After.{after}
use Rattle.theory_errors.specs.Rows.{Row, ids_of, find, rows_after}
use Rattle.theory_errors.specs.Rule.{Move, Point, queue_behind, Allowed, first_point}

-- What a program keeps: numbers, flags, one header block of each side, and the rows.
pub record Book : Type 0 where
  pub has_come : Bool
  pub block : Option Partial
  pub continuations : ℕ
  pub block_out : Option Partial
  pub first_size : ℕ
  pub own : ℕ
  pub window : ℤ
  pub room : ℤ
  pub drained : Bool
  pub rows : List Row
  pub resets : ℕ
  pub given : List Opened
  pub last : ℕ
  pub ends : Bool
  pub closed : Bool
  pub untaken : ℕ

-- the summary that a book tells
abbrev pub summary_in : Book → Summary
summary_in book = record {
  has_come = book.has_come;
  block = book.block;
  continuations = book.continuations;
  block_out = book.block_out;
  first_size = book.first_size;
  own = book.own;
  window = book.window;
  room = book.room;
  drained = book.drained;
  opened = ids_of book.rows;
  stream = find book.rows;
  resets = book.resets;
  given = book.given;
  last = book.last;
  ends = book.ends;
  closed = book.closed;
  untaken = book.untaken;
}

-- a summary is kept as a book with these rows
abbrev pub book_with : List Row → Summary → Book
book_with rows s = record {
  has_come = s.has_come;
  block = s.block;
  continuations = s.continuations;
  block_out = s.block_out;
  first_size = s.first_size;
  own = s.own;
  window = s.window;
  room = s.room;
  drained = s.drained;
  rows = rows;
  resets = s.resets;
  given = s.given;
  last = s.last;
  ends = s.ends;
  closed = s.closed;
  untaken = s.untaken;
}

-- the book behind an entry
abbrev pub book_after : Setup → Bool → Book → Entry → Book
book_after setup fails book e =
    book_with (rows_after setup fails (summary_in book) e book.rows) (after setup fails (summary_in book) e)

-- What is kept, and what is owed next.
pub record Ledger : Type 0 where
  pub book : Book
  pub queue : List Frame

-- the point that a ledger stands for
abbrev pub as_point : Ledger → Point
as_point ledger = record { summary = summary_in ledger.book; queue = ledger.queue }

-- the ledger behind a move
abbrev pub ledger_after : Setup → Ledger → Move → Ledger
ledger_after setup ledger m = record {
  book = book_after setup m.fails ledger.book m.entry;
  queue = queue_behind setup m.fails (as_point ledger) m.entry;
}

-- ---- which move may come

-- the note of a header block that is read, or can't be
abbrev pub is_told : Note → Bool
is_told (Fields fields) = true
is_told Undecodable = true
is_told _ = false

-- What an entry is that is no error of the connection, besides standing in its turn: the note of a frame says what its header
-- block is; an answer fails on an active stream; a frame to the client is not on a stream that the client may open yet.
abbrev pub IsSound : Bool → Summary → Entry → Type 0
IsSound fails s (Came noted) = is_some (completed_in s.block noted.frame) ≡ true → is_told noted.note ≡ true
IsSound fails s (Breached breach) = Unit {0}
IsSound fails s (Happened event) = fails ≡ true → is_active_in (about_in s (Happened event)) s ≡ true
IsSound fails s (Sent noted) = may_open s.drained s.opened noted.frame.id ≡ false
IsSound fails s (Did act) = Unit {0}

-- What any entry is: the header block of a frame that is such an error needs no reading.
abbrev pub IsFit : Bool → Summary → Entry → Type 0
IsFit fails s (Came noted) = is_fatal (fault_in s (Came noted)) ≡ false → IsSound fails s (Came noted)
IsFit fails s e = IsSound fails s e

-- The move may come: it is its turn, and it is fit.
pub record MayMove (ledger : Ledger) (m : Move) : Type 0 where
  pub allowed : Allowed (as_point ledger) m
  pub fit : IsFit m.fails (summary_in ledger.book) m.entry

-- ---- moves, the newest first

-- what is kept before anything comes
abbrev pub first_ledger : Setup → Ledger
first_ledger setup = record { book = book_with [] (first_point setup).summary; queue = settings_frame setup.more_room ∷ [] }

-- what is kept behind moves
abbrev pub ledger_of : Setup → List Move → Ledger
ledger_of setup [] = first_ledger setup
ledger_of setup (m ∷ moves) = ledger_after setup (ledger_of setup moves) m

-- each move might come where it came
abbrev pub AllMoved : Setup → List Move → Type 0
AllMoved setup [] = Unit {0}
AllMoved setup (m ∷ moves) = AllMoved setup moves × MayMove (ledger_of setup moves) m

-- The program rests: nothing is owed, no header block to the client is begun, and the client is closed if the connection is to end.
pub record Rests (ledger : Ledger) : Type 0 where
  pub nothing : ledger.queue ≡ []
  pub none_begun : ledger.book.block_out ≡ None
  pub ended : must_end_in (summary_in ledger.book) ≡ true → ledger.book.closed ≡ true
