-- What the frames of a client are judged by: the book of `theory_errors`, but for what they neither look at nor change.
use Rattle.std.specs.Prelude.{◌≡◌, ℕ, ◌≤◌, ◌==◌, Bool, true, false, List, Option, Some, None, ℤ, is_some}
use Rattle.model.specs.Limits.{greatest_window}
use Rattle.model.specs.Decoding.{Partial}
use Rattle.model.specs.Tables.{Table}
use Rattle.header_blocks.specs.declared.fault.DecodeFault.{DecodeFault}
use Rattle.model.specs.Openings.{Opened}
use Rattle.theory_errors.specs.Rows.{Row}
use Rattle.theory_errors.specs.Book.{Book}
use Rattle.theory_errors.specs.Tidy.{AreKept}
use Rattle.theory_errors.specs.Summary.{Summary}
use Rattle.theory_errors.specs.Book.{summary_in}
use Rattle.header_blocks.specs.Joining.{Joining}

pub record Inbound : Type 0 where
  -- a frame came
  pub has_come : Bool
  -- the header block that isn't complete, and how many CONTINUATION frames the last ones are
  pub block : Option Partial
  pub continuations : ℕ
  -- the first size of streams' sending windows, and of their receiving windows
  pub first_size : ℕ
  pub own : ℕ
  -- the connection's windows, in which it sends and in which it receives
  pub window : ℤ
  pub room : ℤ
  -- the operator asked for the connection's end
  pub drained : Bool
  -- the streams that were opened
  pub rows : List Row
  -- how many active streams the client reset
  pub resets : ℕ
  -- the stream of the last frame
  pub last : ℕ
  -- the header table of the client's blocks (RFC 7541, section 2.3.2)
  pub table : Table

-- the rest of the book: what else is kept of a connection that goes on, to which no header block is begun
pub record Outside : Type 0 where
  pub given : List Opened
  pub untaken : ℕ

-- the book
abbrev pub book_of : Outside → Inbound → Book
book_of outside inbound = record {
  has_come = inbound.has_come;
  block = inbound.block;
  continuations = inbound.continuations;
  block_out = None;
  first_size = inbound.first_size;
  own = inbound.own;
  window = inbound.window;
  room = inbound.room;
  drained = inbound.drained;
  rows = inbound.rows;
  resets = inbound.resets;
  given = outside.given;
  last = inbound.last;
  ends = false;
  closed = false;
  untaken = outside.untaken;
}

-- what the book tells
abbrev pub told_of : Outside → Inbound → Summary
told_of outside inbound = summary_in (book_of outside inbound)

-- What holds of the size of receiving windows, of the rows, of the joiner beside the count of CONTINUATION frames, and of the decoder, which can go on.
pub record IsWhole (own : ℕ) (rows : List Row) (joining : Joining) (continuations : ℕ) (fault : Option DecodeFault) : Type 0 where
  pub small : own ≤ greatest_window
  pub kept : AreKept rows
  pub counted : is_some joining.begun ≡ true → continuations ≡ joining.continuations
  pub of_stream : (block : Partial) → joining.begun ≡ Some block → (block.id == 0) ≡ false
  pub readable : fault ≡ None
