-- What is kept once a part of a response went out, and once a stream is over.
use Rattle.std.specs.Prelude.{◌≡◌, ℕ, ◌+◌, ◌<◌, ◌≤◌, ◌⊎◌, Bool, true, false, if◌then◌else◌, List, [], ◌∷◌, length, Option, Some, None, ℤ, pos, ◌-ℤ◌}
use Rattle.model.specs.Frames.{Frame, spell, no_error}
use Rattle.model.specs.ErrorClause.{rst_stream}
use Rattle.model.specs.Messages.{Field}
use Rattle.model.specs.ResponseHeads.{Head}
use Rattle.model.specs.Logs.{Output}
use Rattle.model.specs.Logs.Output.{ToClient}
use Rattle.model.specs.Tables.{Table}
use Rattle.model.specs.Tapes.{put}
use Rattle.model.specs.Deliveries.{IsSection}
use Rattle.theory_errors.specs.Summary.{Stream as Kept}
use Rattle.theory_errors.specs.Rows.{find}
use Rattle.theory_errors.specs.Rows.Slot.{Over}
use Rattle.theory_responses.specs.Outbox.{Part}
use Rattle.theory_responses.specs.Outbox.Part.{Early, Final, Octets, Trailing}
use Rattle.header_blocks.specs.Encoding.{Encoding}
use Rattle.header_blocks.specs.Encodes.{IsWrittenBy}
use Rattle.streams.specs.Asked.{is_active, changed}
use Rattle.streams.specs.Sending.{head_sent, data_sent}
use Rattle.h1_reader.specs.HeadSizes.{CanTrail}
use Rattle.connection_state.specs.Sending.{with_kept, AreWithin}
use Rattle.send_buffer.specs.Views.{IsHead}
use Rattle.send_queue.specs.Asked.{part_for}
use Rattle.send_queue.specs.Changes.{behind_turn}
use Rattle.effects.specs.Sent.{data_frame, put_frames}
use Rattle.effects.specs.Blocks.{block_frames}
use Rattle.refinement.specs.View.{View}
use Rattle.event_handlers.specs.Forgetting.{forgotten}

-- a part of a stream went out in so many octets, and this is kept of the stream, of the connection's window and of the encoder
abbrev pub part_gone : ℕ → Part → Kept → ℤ → Encoding → ℕ → View → View
part_gone id part kept window encoding count u = record u {
  inbound = record u.inbound { window = window; rows = with_kept id kept u.inbound.rows };
  offers = behind_turn id part u.offers;
  encoding = encoding;
  untaken = u.untaken + count;
}

-- nothing is kept of a stream that isn't active any more
abbrev pub unless_active : ℕ → View → View
unless_active id u = if is_active u.inbound.rows id then u else forgotten id u

-- a stream was reset
abbrev pub reset_gone : ℕ → ℕ → View → View
reset_gone id code u = record u {
  inbound = record u.inbound { rows = changed id (Over true) u.inbound.rows };
  untaken = u.untaken + length (spell (rst_stream id code));
}

-- the gateway ended a stream: it is reset where the client hasn't ended it, and then it is over
abbrev pub ended : ℕ → View → View
ended id u = forgotten id (if is_active u.inbound.rows id then reset_gone id no_error u else u)

-- and this was put out
abbrev pub put_at_end : ℕ → View → List Output → List Output
put_at_end id u outputs = if is_active u.inbound.rows id then put outputs (ToClient (spell (rst_stream id no_error))) else outputs

-- how many octets frames are
abbrev pub octets_of_frames : List Frame → ℕ
octets_of_frames [] = 0
octets_of_frames (frame ∷ frames) = length (spell frame) + octets_of_frames frames

-- ---- parts that went out

-- The part is a head, which is a final one or isn't, and ends the stream or doesn't.
abbrev pub IsHeadPart : Option Part → Bool → Bool → Type 0
IsHeadPart (Some (Early head)) is_final ends = (is_final ≡ false) × (ends ≡ false)
IsHeadPart (Some (Final head last)) is_final ends = (is_final ≡ true) × (ends ≡ last)
IsHeadPart part is_final ends = ⊥

-- It is octets of a body, or the end alone, and ends the stream or doesn't.
abbrev pub AreOctetsPart : Option Part → List ℕ → Bool → Type 0
AreOctetsPart (Some (Octets octets last)) sent ends = (sent ≡ octets) × (ends ≡ last)
AreOctetsPart part sent ends = ⊥

-- The head that goes next on a stream went out in the frames of one block (RFC 9113, section 8.1).
pub record IsHeadSent (old : View) (outputs : List Output) (id : ℕ) (is_final ends : Bool) (new : View) (put_out : List Output) : Type 0 where
  pub head : Head
  pub part : Part
  pub next : part_for 1 id old.offers.kept ≡ Some part
  pub says : IsHeadPart (Some part) is_final ends
  pub is_head : IsHead head part
  pub fields : List Field
  pub section : IsSection fields head
  pub table : Table
  pub block : List ℕ
  pub written : IsWrittenBy old.encoding fields table block
  pub kept : new ≡ part_gone id part (head_sent is_final ends (find old.inbound.rows id)) old.inbound.window (record old.encoding {
    table = table;
    limits = None;
  }) (octets_of_frames (block_frames id ends block)) old
  pub puts : put_out ≡ put_frames outputs (block_frames id ends block)

-- The trailers that go next on a stream went out in the frames of one block, which ends it (RFC 9113, section 8.1).
pub record AreTrailersSent (old : View) (outputs : List Output) (id : ℕ) (new : View) (put_out : List Output) : Type 0 where
  pub trailers : List Field
  pub next : part_for 1 id old.offers.kept ≡ Some (Trailing trailers)
  pub can_trail : CanTrail trailers
  pub table : Table
  pub block : List ℕ
  pub written : IsWrittenBy old.encoding trailers table block
  pub kept : new ≡ part_gone id (Trailing trailers) (head_sent false true (find old.inbound.rows id)) old.inbound.window (record old.encoding {
    table = table;
    limits = None;
  }) (octets_of_frames (block_frames id true block)) old
  pub puts : put_out ≡ put_frames outputs (block_frames id true block)

-- What is kept once octets that go next on a stream, or its end alone, went out: so many, of the part that goes where so many may.
pub record AreOctetsNoted (old : View) (id most count : ℕ) (ends : Bool) (new : View) : Type 0 where
  pub part : Part
  pub next : part_for most id old.offers.kept ≡ Some part
  pub kept : new ≡ part_gone id part (data_sent count ends (find old.inbound.rows id)) (old.inbound.window -ℤ pos count) old.encoding (9 + count) old

-- Octets that go next on a stream, or its end alone, went out in one frame, within both windows (RFC 9113, sections 6.1 and 6.9.1).
pub record AreOctetsSent (old : View) (outputs : List Output) (id : ℕ) (ends : Bool) (new : View) (put_out : List Output) : Type 0 where
  pub most : ℕ
  pub some : 0 < most
  pub part : Part
  pub next : part_for most id old.offers.kept ≡ Some part
  pub octets : List ℕ
  pub are : AreOctetsPart (Some part) octets ends
  pub few : length octets ≤ 16384
  pub within : AreWithin old.inbound id (length octets)
  pub kept : new ≡ part_gone id part (data_sent (length octets) ends (find old.inbound.rows id)) (old.inbound.window -ℤ pos (length octets)) old.encoding
      (length (spell (data_frame id ends octets))) old
  pub puts : put_out ≡ put outputs (ToClient (spell (data_frame id ends octets)))

-- A part went out: a head, octets, or trailers, with which the stream ends.
abbrev pub IsPartSent : View → List Output → ℕ → Bool → View → List Output → Type 0
IsPartSent old outputs id ends new put_out =
    ((is_final : Bool) × IsHeadSent old outputs id is_final ends new put_out)
    ⊎ AreOctetsSent old outputs id ends new put_out
    ⊎ ((ends ≡ true) × AreTrailersSent old outputs id new put_out)
