-- How the rows lie: an entry for each stream in the order of their ids, and for each active one a record at a key of a slab, where there is a record
-- or none at each key.
use Rattle.std.specs.Prelude.{◌≡◌, ◌≢◌, ℕ, ◌+◌, ◌<◌, ◌≤◌, Bool, true, false, List, map, reverse, length, slice_index_or, Option, Some, None, is_some}
use Rattle.std.specs.List.{count_by}
use Rattle.model.specs.Limits.{most_streams}
use Rattle.model.specs.WindowsOnTape.{is_past}
use Rattle.theory_errors.specs.Judging.{window_in}
use Rattle.theory_errors.specs.Rows as rows
use Rattle.theory_errors.specs.Rows.{Row}
use Rattle.theory_errors.specs.Tidy.{AreKept}
use Rattle.streams.specs.declared.entries.StreamEntry.{StreamEntry}
use Rattle.streams.specs.declared.entries.Slot.{Slot}
use Rattle.streams.specs.declared.entries.Slot.TheVariants as slot
use Rattle.streams.specs.declared.records.StreamRecord.{StreamRecord}

-- the record at a key, if there is one
abbrev pub record_at : List (Option StreamRecord) → ℕ → Option StreamRecord
record_at records key = slice_index_or records key None

-- the sending window of a record's stream is past the greatest with this first size
abbrev pub is_shifted_past : ℕ → StreamRecord → Bool
is_shifted_past first r = is_past (window_in first r.live)

-- the slot of a stream with this record
abbrev pub slot_with : Option StreamRecord → rows.Slot
slot_with None = rows.Slot.Over false
slot_with (Some r) = rows.Slot.Live r.live

-- the slot of a stream
abbrev pub slot_in : List (Option StreamRecord) → Slot → rows.Slot
slot_in records (slot.Live key) = slot_with (record_at records key)
slot_in records (slot.Over by_us) = rows.Slot.Over by_us

-- the row of a stream
abbrev pub row_in : List (Option StreamRecord) → StreamEntry → Row
row_in records entry = record { id = entry.id; slot = slot_in records entry.slot }

-- the rows of all, the newest first
abbrev pub rows_in : List StreamEntry → List (Option StreamRecord) → List Row
rows_in entries records = reverse (map (row_in records) entries)

-- an entry for a place where there is none
abbrev pub absent : StreamEntry
absent = record { id = 0; slot = slot.Over false }

-- the entry at a place
abbrev pub at : List StreamEntry → ℕ → StreamEntry
at entries place = slice_index_or entries place absent

-- the id at a place
abbrev pub id_at : List StreamEntry → ℕ → ℕ
id_at entries place = (at entries place).id

-- The ids rise.
abbrev pub IsRising : List StreamEntry → Type 0
IsRising entries = (i j : ℕ) → i < j → j < length entries → id_at entries i < id_at entries j

-- The entry at this place has the id.
pub record IsAt (entries : List StreamEntry) (id place : ℕ) : Type 0 where
  pub within : place < length entries
  pub has_id : id_at entries place ≡ id

-- No entry has the id: it would stand at this place, with lower ones before it and higher ones from it on.
pub record IsGap (entries : List StreamEntry) (id place : ℕ) : Type 0 where
  pub within : place ≤ length entries
  pub lower_before : (i : ℕ) → i < place → id_at entries i < id
  pub higher_after : (i : ℕ) → place ≤ i → i < length entries → id < id_at entries i

-- The record of an active stream is its own.
abbrev pub IsHeld : List (Option StreamRecord) → ℕ → Slot → Type 0
IsHeld records id (slot.Live key) = (r : StreamRecord) × (record_at records key ≡ Some r) × (r.id ≡ id)
IsHeld records id (slot.Over by_us) = Unit {0}

-- how many records there are
abbrev pub count_records : List (Option StreamRecord) → ℕ
count_records records = count_by is_some records

-- The record is stored at this key, where there was none, and each other one is where it was.
pub record IsStored (old new : List (Option StreamRecord)) (key : ℕ) (r : StreamRecord) : Type 0 where
  pub vacant : record_at old key ≡ None
  pub there : record_at new key ≡ Some r
  pub same : (other : ℕ) → other ≢ key → record_at new other ≡ record_at old other
  pub counted : count_records new ≡ count_records old + 1

-- the entry is of an active stream
abbrev pub is_live : Slot → Bool
is_live (slot.Live key) = true
is_live (slot.Over by_us) = false

-- how many are
abbrev pub count_live : List StreamEntry → ℕ
count_live entries = count_by (λ (entry : StreamEntry). is_live entry.slot) entries

-- The key is that of this stream's entry.
pub record IsOwner (entries : List StreamEntry) (key id place : ℕ) : Type 0 where
  pub within : place < length entries
  pub has_key : (at entries place).slot ≡ slot.Live key
  pub has_id : id_at entries place ≡ id

-- What holds of entries and of records. There are as many records as active streams, so that a vacant place is used again before one more is made.
pub record AreHeld (entries : List StreamEntry) (records : List (Option StreamRecord)) : Type 0 where
  pub rising : IsRising entries
  pub few : length entries ≤ most_streams
  pub kept : AreKept (rows_in entries records)
  pub held : (place : ℕ) → place < length entries → IsHeld records (id_at entries place) (at entries place).slot
  pub owned : (key : ℕ) (r : StreamRecord) → record_at records key ≡ Some r → (place : ℕ) × IsOwner entries key r.id place
  pub counted : count_records records ≡ count_live entries
