-- What comes of a whole header block on its stream, by the rows of the streams before it and behind it (RFC 9113, sections 5.1, 5.1.1, 5.1.2 and 8.1).
use Rattle.std.specs.Prelude.{◌≡◌, ◌≤◌, ◌⊎◌, ◌==◌, nat_lt, ℕ, Bool, true, false, not, ◌&&◌, ◌||◌, if◌then◌else◌, List}
use Rattle.std.specs.Prelude.{[], ◌∷◌, length, Option, Some, None, is_some}
use Rattle.model.specs.Messages.{Field}
use Rattle.model.specs.Messages.Item.{Block}
use Rattle.model.specs.Frames.{headers_kind, protocol_error, enhance_your_calm}
use Rattle.model.specs.Http2.{passed_trailers}
use Rattle.model.specs.Setup.{Setup}
use Rattle.model.specs.Tapes.Note.{Fields}
use Rattle.model.specs.Errors as errors
use Rattle.model.specs.Errors.{or_else}
use Rattle.model.specs.FrameErrors.{fault_if}
use Rattle.model.specs.Limits.{most_streams, largest_fields}
use Rattle.model.specs.Lifetimes.{may_open}
use Rattle.model.specs.ErrorTable.{fault_of, is_bad_block}
use Rattle.model.specs.Courses.{cause_of_block, first_of_both}
use Rattle.theory_errors.specs.Summary.{Outline, carried_in, Stream as Kept}
use Rattle.theory_errors.specs.Owing.{outline_behind}
use Rattle.theory_errors.specs.Rows.{Row, Slot, ids_of, find, slot_of}
use Rattle.theory_errors.specs.Rows.Slot.{Over}
use Rattle.model.specs.Tables.{total_size}
use Rattle.header_blocks.specs.declared.gather.Decoded.{Decoded}
use Rattle.header_blocks.specs.declared.gather.Decoded.TheVariants.{Fields as Fits, TooLarge}
use Rattle.local_replies.specs.Views.{cause_of}
use Rattle.local_replies.specs.Openings.{GoesOn}
use Rattle.streams.specs.Asked.{verdict, changed, is_active}
use Rattle.connection_state.specs.Judgement.{fault_told}
use Rattle.connection_state.specs.declared.terms.Terms.{Terms}
use Rattle.connection_state.specs.declared.answers.BlockJudged.{BlockJudged}
use Rattle.connection_state.specs.declared.answers.BlockJudged.TheVariants as judged

-- the rows where a stream has this slot: its row is changed if it has one, and else stands in front
abbrev pub placed : List Row → ℕ → Slot → List Row
placed rows id slot = if may_open false (ids_of rows) id then record { id = id; slot = slot } ∷ rows else changed id slot rows

-- what is kept of a stream behind a block without a fault
abbrev pub kept_with : Setup → Kept → List Field → Bool → Kept
kept_with setup kept fields ends =
    let cause = cause_of_block setup (carried_in kept.outline) (Fields fields) in
    record kept {
      ended_by_client = ends || kept.ended_by_client;
      outline = outline_behind kept.outline (is_some cause) (Block fields ends ∷ []) cause kept.head_out;
    }

-- the block is malformed behind what its stream carried
abbrev pub is_malformed_behind : Outline → List Field → Bool → Bool
is_malformed_behind outline fields ends = not (is_some outline.cause) && is_bad_block (carried_in outline) ends (Fields fields)

-- its fault: by the state of its stream, or by itself
abbrev pub fault_on : List Row → ℕ → List Field → Bool → Option errors.Fault
fault_on rows id fields ends =
    or_else (fault_of (verdict false rows id headers_kind)) (fault_if (is_malformed_behind (find rows id).outline fields ends) (errors.Fault.Stream protocol_error))

-- the streams that were opened, with one where it may be opened
abbrev pub ids_with : List Row → ℕ → List ℕ
ids_with rows id = if may_open false (ids_of rows) id then id ∷ ids_of rows else ids_of rows

-- a block on the stream opens the last that a connection may have
abbrev pub opens_last : List Row → ℕ → Bool
opens_last rows id = nat_lt (length (ids_of rows)) most_streams && length (ids_with rows id) == most_streams

-- its fault where the GOAWAY behind it can't go out, since too many octets are untaken
abbrev pub no_goaway : Bool → List Row → ℕ → Option errors.Fault
no_goaway crowded rows id = fault_if (opens_last rows id && crowded) (errors.Fault.Stream enhance_your_calm)

-- its fault where too many octets are untaken or aren't
abbrev pub fault_with : Bool → List Row → ℕ → List Field → Bool → Option errors.Fault
fault_with crowded rows id fields ends =
    or_else (fault_of (verdict false rows id headers_kind)) (or_else (no_goaway crowded rows id)
    (fault_if (is_malformed_behind (find rows id).outline fields ends) (errors.Fault.Stream protocol_error)))

-- The rows that a block with this fault leaves: behind an error of its stream that is reset.
abbrev pub AreLeft : List Row → ℕ → errors.Fault → List Row → Type 0
AreLeft old id (errors.Fault.Stream code) new = new ≡ placed old id (Over true)
AreLeft old id _ new = new ≡ old

-- What an answer says of a block without a fault, behind this of its stream; each answer is one to other blocks. One that is ignored is no new cause
-- of a reply.
abbrev pub SaysOf : Setup → Outline → List Field → Bool → BlockJudged → Type 0
SaysOf setup outline fields ends (judged.Failed found) = ⊥
SaysOf setup outline fields ends judged.GoesOn = ⊥
SaysOf setup outline fields ends (judged.Begins head route) = (outline.begun ≡ false) × (outline.over ≡ false) × GoesOn setup fields ends head route
SaysOf setup outline fields ends (judged.Answered cause) = (outline.cause ≡ None)
    × (cause_of_block setup (carried_in outline) (Fields fields) ≡ Some (cause_of cause))
SaysOf setup outline fields ends (judged.Trailers trailers) =
    (outline.begun ≡ true) × (outline.over ≡ false) × (cause_of_block setup (carried_in outline) (Fields fields) ≡ None)
    × (trailers.items ≡ passed_trailers fields)
SaysOf setup outline fields ends judged.Ignored = (outline.over ≡ true)
    × (first_of_both outline.cause (cause_of_block setup (carried_in outline) (Fields fields)) ≡ outline.cause)

-- A block without a fault, and what it leaves.
pub record IsSettled (setup : Setup) (old : List Row) (id : ℕ) (fields : List Field) (ends : Bool) (new : List Row) (answer : BlockJudged) : Type 0 where
  pub faultless : fault_on old id fields ends ≡ None
  pub left : new ≡ placed old id (slot_of (kept_with setup (find old id) fields ends))
  pub says : SaysOf setup (find old id).outline fields ends answer

-- The answer is right of a block with these fields, whose HEADERS has END_STREAM or doesn't, and these are the rows that it leaves.
abbrev pub Settles : Setup → List Row → ℕ → List Field → Bool → List Row → BlockJudged → Type 0
Settles setup old id fields ends new (judged.Failed found) = (fault_on old id fields ends ≡ Some (fault_told found)) × AreLeft old id (fault_told found) new
Settles setup old id fields ends new answer = IsSettled setup old id fields ends new answer

-- That of a block with this fault.
abbrev pub SettlesBy : Option errors.Fault → Setup → List Row → ℕ → List Field → Bool → List Row → BlockJudged → Type 0
SettlesBy fault setup old id fields ends new (judged.Failed found) = (fault ≡ Some (fault_told found)) × AreLeft old id (fault_told found) new
SettlesBy fault setup old id fields ends new answer = (fault ≡ None) × IsSettled setup old id fields ends new answer

-- The stream is active, or the client may open it.
abbrev pub IsOpenOrIdle : List Row → ℕ → Type 0
IsOpenOrIdle rows id = (is_active rows id ≡ true) ⊎ (may_open false (ids_of rows) id ≡ true)

-- what is kept of a stream, with this course, and which its client ends with it or doesn't
abbrev pub kept_so : Kept → Outline → Bool → Kept
kept_so kept outline ends = record kept { ended_by_client = ends || kept.ended_by_client; outline = outline }

-- the fields of a block that was decoded fit, where they were answered
abbrev pub AreFitting : Decoded → Type 0
AreFitting (Fits fields) = total_size fields.items ≤ largest_fields
AreFitting TooLarge = Unit {0}

-- The setup has these terms.
pub record IsFor (setup : Setup) (terms : Terms) : Type 0 where
  pub routes : setup.routes ≡ terms.routes.now
  pub max_body : setup.max_body ≡ terms.max_body
