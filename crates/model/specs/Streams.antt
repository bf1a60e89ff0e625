-- What a frame brings its stream (RFC 9113, sections 5.1 and 8.1).
use Rattle.std.specs.Prelude.{ℕ, Bool, true, false, ◌&&◌, ◌==◌, if◌then◌else◌, List, [], ◌∷◌, Option, Some, None}
use Rattle.model.specs.Messages.{Item}
use Rattle.model.specs.Messages.Item.{Block, Content}
use Rattle.model.specs.Frames.{data_kind, rst_stream_kind, ends_stream, content}
use Rattle.model.specs.Tapes.{Note, Noted, Entry, came}
use Rattle.model.specs.Tapes.Note.{Fields}
use Rattle.model.specs.Tapes.Entry.{Came, Sent}
use Rattle.model.specs.Decoding.{Partial, completed}
use Rattle.model.specs.Errors.{Fault}
use Rattle.model.specs.Errors.Fault.{Connection, Stream, Discarded}

-- the item of a block that is complete
abbrev pub block_items : Partial → Note → List Item
block_items block (Fields fields) = Block fields block.ends ∷ []
block_items block _ = []

-- the item that a frame brings its stream: octets of the body without padding, or the header block that it completes
abbrev pub frame_items : Option Partial → Noted → List Item
frame_items (Some block) noted = block_items block noted.note
frame_items None noted =
    if noted.frame.kind == data_kind then Content (content noted.frame) (ends_stream noted.frame) ∷ [] else []

-- the frame of an entry belongs to a stream
abbrev pub is_on : ℕ → Entry → Bool
is_on stream (Came noted) = noted.frame.id == stream
is_on stream (Sent noted) = noted.frame.id == stream
is_on stream _ = false

-- one side resets the stream (section 5.4.2)
abbrev pub is_reset : ℕ → Entry → Bool
is_reset stream (Came noted) = noted.frame.kind == rst_stream_kind && noted.frame.id == stream
is_reset stream (Sent noted) = noted.frame.kind == rst_stream_kind && noted.frame.id == stream
is_reset stream _ = false

-- a fault of the connection ends each stream's items, one of a stream those of its own
abbrev pub is_ended_by : Bool → Option Fault → Bool
is_ended_by on_stream None = false
is_ended_by on_stream (Some (Connection code)) = true
is_ended_by on_stream (Some (Stream code)) = on_stream
is_ended_by on_stream (Some Discarded) = on_stream

-- the items that an entry brings a stream
abbrev pub items_of : ℕ → List Entry → Entry → List Item
items_of stream t (Came noted) =
    if noted.frame.id == stream then frame_items (completed (came t) noted.frame) noted else []
items_of stream t _ = []
