-- Rows of `theory_errors`, as a list of streams is asked and changed.
use Rattle.std.specs.Prelude.{◌≡◌, ℕ, ◌<◌, Bool, true, false, not, ◌&&◌, ◌==◌, if◌then◌else◌, List, map, filter, length}
use Rattle.std.specs.List.{list_any}
use Rattle.model.specs.StreamStates as states
use Rattle.model.specs.StreamStates.{OpenedStream, Standing, Verdict}
use Rattle.model.specs.Limits.{most_streams}
use Rattle.model.specs.Frames.{refused_stream}
use Rattle.stream_state.specs.declared.verdicts.Verdict.{Verdict as Answer}
use Rattle.stream_state.specs.declared.verdicts.Verdict.TheVariants as answer
use Rattle.theory_errors.specs.Tidy.{is_above_all}
use Rattle.model.specs.WindowsOnTape.{is_past}
use Rattle.theory_errors.specs.Summary.{Stream as Kept}
use Rattle.theory_errors.specs.Judging.{state_in, is_over_in, window_in}
use Rattle.theory_errors.specs.Rows.{Row, Slot, ids_of, find}

-- the streams that were opened, each with its state
abbrev pub opened_in : List Row → List OpenedStream
opened_in rows = map (λ id. record { id = id; state = state_in (find rows id) }) (ids_of rows)

-- how an id stands to them, where the connection is drained or isn't (RFC 9113, section 5.1)
abbrev pub standing : Bool → List Row → ℕ → Standing
standing drained rows id = states.standing drained (opened_in rows) id

-- the ids of those that are active
abbrev pub active_in : List Row → List ℕ
active_in rows = filter (λ id. not (is_over_in (find rows id))) (ids_of rows)

-- the stream was opened
abbrev pub has : List Row → ℕ → Bool
has rows id = list_any (λ other. other == id) (ids_of rows)

-- it is active
abbrev pub is_active : List Row → ℕ → Bool
is_active rows id = has rows id && not (is_over_in (find rows id))

-- what comes of a type on a stream
abbrev pub verdict : Bool → List Row → ℕ → ℕ → Verdict
verdict drained rows id kind = states.verdict (length (active_in rows)) (standing drained rows id) kind

-- a first size of windows with which that of an active stream is past the greatest (RFC 9113, section 6.9.2)
abbrev pub shifts_past : ℕ → List Row → Bool
shifts_past first rows = list_any (λ id. is_past (window_in first (find rows id))) (active_in rows)

-- A stream with this id may be opened: it is above all that were, and these aren't all that are opened on a connection.
pub record MayOpen (rows : List Row) (id : ℕ) : Type 0 where
  pub of_stream : (id == 0) ≡ false
  pub above : is_above_all id rows ≡ true
  pub few : length rows < most_streams

-- Where the answer is that a frame opens its stream, or that it is refused though it would, the stream may be opened.
abbrev pub AllowsOpening : Answer → List Row → ℕ → Type 0
AllowsOpening answer.Open rows id = MayOpen rows id
AllowsOpening (answer.Stream code) rows id = code ≡ refused_stream → MayOpen rows id
AllowsOpening _ rows id = Unit {0}

-- The stream is active, and this is kept of it.
pub record IsLive (rows : List Row) (id : ℕ) (kept : Kept) : Type 0 where
  pub has_row : has rows id ≡ true
  pub found : find rows id ≡ kept
  pub goes_on : is_over_in kept ≡ false

-- the row, with this slot if it is of this stream
abbrev pub with_slot : ℕ → Slot → Row → Row
with_slot id slot row = if row.id == id then record { id = row.id; slot = slot } else row

-- the rows where that of a stream has this slot
abbrev pub changed : ℕ → Slot → List Row → List Row
changed id slot rows = map (with_slot id slot) rows
