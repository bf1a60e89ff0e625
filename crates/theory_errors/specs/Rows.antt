-- What a program keeps of the streams: a row for each that was opened. Of a stream that is over nothing is kept but whether the
-- gateway reset it; of all other ids nothing.
use Rattle.std.specs.Prelude.{◌≡◌, ℕ, Bool, true, false, ◌≤◌, ◌==◌, if◌then◌else◌, List, [], ◌∷◌, map, length, None, pos}
use Rattle.std.specs.List.{list_any}
use Rattle.model.specs.Limits.{most_streams}
use Rattle.model.specs.Setup.{Setup}
use Rattle.model.specs.Tapes.{Entry}
use Rattle.model.specs.Tapes.Entry.{Came}
use Rattle.model.specs.Lifetimes.{opens_by, may_open}
use Rattle.theory_errors.specs.Summary.{Stream as Kept, Summary}
use Rattle.theory_errors.specs.Judging.{is_over_in, completed_in}
use Rattle.theory_errors.specs.After.{kept_behind}

-- what is known of a stream that wasn't opened
abbrev pub fresh : Kept
fresh = record {
  ended_by_client = false;
  ended_by_gateway = false;
  reset_by_client = false;
  reset_by_gateway = false;
  balance = pos 0;
  room = pos 0;
  head_out = false;
  outline = record { begun = false; declared = None; octets = 0; over = false; cause = None; head_out = false };
}

-- a stream that is over
abbrev pub over_kept : Bool → Kept
over_kept by_us = record fresh { ended_by_client = true; ended_by_gateway = true; reset_by_gateway = by_us }

-- What is kept of a stream that was opened.
pub data Slot : Type 0 where
  -- an active stream, with all that is kept of it
  Live : (kept : Kept) → Slot
  -- one that is over: whether the gateway reset it
  Over : (by_us : Bool) → Slot

-- what a slot tells of its stream
abbrev pub kept_in : Slot → Kept
kept_in (Live kept) = kept
kept_in (Over by_us) = over_kept by_us

-- what is to be kept of a stream
abbrev pub slot_of : Kept → Slot
slot_of kept = if is_over_in kept then Over kept.reset_by_gateway else Live kept

-- A stream that was opened, and what is kept of it.
pub record Row : Type 0 where
  pub id : ℕ
  pub slot : Slot

-- the ids of rows
abbrev pub ids_of : List Row → List ℕ
ids_of rows = map (λ (row : Row). row.id) rows

-- what is kept of a stream
abbrev pub find : List Row → ℕ → Kept
find [] id = fresh
find (row ∷ rows) id = if row.id == id then kept_in row.slot else find rows id

-- a summary with the streams that the rows tell
abbrev pub with_streams : (ℕ → Kept) → Summary → Summary
with_streams f s = record s { stream = f }

-- the slot of a stream behind an entry, from the one before it
abbrev pub slot_behind : Setup → Bool → Summary → Entry → ℕ → Slot → Slot
slot_behind setup fails s e id slot = slot_of (kept_behind setup fails s e id (kept_in slot))

-- the row of a stream behind an entry, from its row before it
abbrev pub row_behind : Setup → Bool → Summary → Entry → Row → Row
row_behind setup fails s e row = record { id = row.id; slot = slot_behind setup fails s e row.id row.slot }

-- the row of a stream that an entry opens
abbrev pub row_opened : Setup → Bool → Summary → Entry → ℕ → Row
row_opened setup fails s e id = record { id = id; slot = slot_of (kept_behind setup fails s e id fresh) }

-- the rows behind an entry: each is changed as the entry says, and a stream that it opens stands in front
abbrev pub rows_after : Setup → Bool → Summary → Entry → List Row → List Row
rows_after setup fails s (Came noted) rows =
    if opens_by s.drained s.opened (completed_in s.block noted.frame) noted.note
    then row_opened setup fails s (Came noted) noted.frame.id ∷ map (row_behind setup fails s (Came noted)) rows
    else map (row_behind setup fails s (Came noted)) rows
rows_after setup fails s e rows = map (row_behind setup fails s e) rows

-- ---- what rows stand for

-- Two views of a stream are the same as far as it matters: whether it is over, and by whom; all of it where it isn't.
pub record IsAlike (kept told : Kept) : Type 0 where
  pub over : is_over_in kept ≡ is_over_in told
  pub by_us : kept.reset_by_gateway ≡ told.reset_by_gateway
  pub live : is_over_in told ≡ false → kept ≡ told

-- These views of the streams will do for those of the summary: alike for each stream that was opened, and the same for each
-- that may be opened yet.
pub record WillDo (f : ℕ → Kept) (s : Summary) : Type 0 where
  pub alike : (id : ℕ) → list_any (λ other. other == id) s.opened ≡ true → IsAlike (f id) (s.stream id)
  pub idle : (id : ℕ) → may_open s.drained s.opened id ≡ true → f id ≡ s.stream id

-- The rows stand for the streams of a summary: one for each that was opened, in their order, and alike; nothing was said of a
-- stream that may be opened yet.
pub record StandFor (rows : List Row) (s : Summary) : Type 0 where
  pub ids : ids_of rows ≡ s.opened
  pub alike : (id : ℕ) → list_any (λ other. other == id) s.opened ≡ true → IsAlike (find rows id) (s.stream id)
  pub idle : (id : ℕ) → may_open s.drained s.opened id ≡ true → s.stream id ≡ fresh
  pub few : length s.opened ≤ most_streams
