-- The records of streams that were opened, in the order of their ids.
use Rattle.std.specs.Prelude.{◌≡◌, ℕ, ◌<◌, ◌≤◌, List, map, length, slice_index_or}
use Rattle.model.specs.StreamStates.{OpenedStream, active_count}
use Rattle.model.specs.Limits.{most_streams}
use Rattle.stream_state.specs.declared.states.State.TheVariants.{Open}
use Rattle.stream_state.specs.declared.records.Record.{Record}
use Rattle.stream_state.specs.Views.{state_in}

-- a record, as a stream that was opened
abbrev pub stream_in : Record → OpenedStream
stream_in r = record { id = r.id; state = state_in r.state }

-- all records
abbrev pub streams_in : List Record → List OpenedStream
streams_in records = map stream_in records

-- a record for a place where there is none
abbrev pub absent : Record
absent = record { id = 0; state = Open }

-- the id of the record at a place
abbrev pub id_at : List Record → ℕ → ℕ
id_at records place = let r = slice_index_or records place absent in r.id

-- The ids rise.
abbrev pub IsRising : List Record → Type 0
IsRising records = (i j : ℕ) → i < j → j < length records → id_at records i < id_at records j

-- The record at this place has the id.
pub record IsAt (records : List Record) (id place : ℕ) : Type 0 where
  pub within : place < length records
  pub has_id : id_at records place ≡ id

-- No record has the id: it would stand at this place, with lower ones before it and higher ones from it on.
pub record IsGap (records : List Record) (id place : ℕ) : Type 0 where
  pub within : place ≤ length records
  pub lower_before : (i : ℕ) → i < place → id_at records i < id
  pub higher_after : (i : ℕ) → place ≤ i → i < length records → id < id_at records i

-- What holds of the records of a connection and of the number that is kept of active ones.
pub record IsKept (records : List Record) (active : ℕ) : Type 0 where
  pub rising : IsRising records
  pub few : length records ≤ most_streams
  pub counted : active ≡ active_count (streams_in records)
