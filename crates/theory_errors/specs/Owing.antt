-- What an entry calls for, over a summary: each word as the model has it over the tape.
use Rattle.std.specs.Prelude.{true, false, ℕ, ◌+◌, max, fold, Bool, not, ◌&&◌, ◌||◌, ◌==◌, nat_lt, if◌then◌else◌, List}
use Rattle.std.specs.Prelude.{[], ◌∷◌, ◌++◌, length, Option, Some, None, is_some}
use Rattle.std.specs.List.{list_any}
use Rattle.model.specs.Octets.{is_empty}
use Rattle.model.specs.Messages.{Item, ends_with}
use Rattle.model.specs.Http2.{body_of}
use Rattle.model.specs.Malformed.{declared, is_begun}
use Rattle.model.specs.Frames.{Frame, data_kind, window_update_kind, continuation_kind, ends_stream, goaway, no_error, enhance_your_calm}
use Rattle.model.specs.Payloads.{number_field}
use Rattle.model.specs.Setup.{Setup}
use Rattle.model.specs.Tapes.{Entry}
use Rattle.model.specs.Tapes.Entry.{Came, Happened, Sent}
use Rattle.model.specs.Limits.{high_water, most_streams}
use Rattle.model.specs.Streams.{frame_items}
use Rattle.model.specs.Errors.{Fault}
use Rattle.model.specs.Errors.Fault.{Connection, Stream}
use Rattle.model.specs.Lifetimes.{is_drain, ends_by}
use Rattle.model.specs.WindowsOnTape.{increment}
use Rattle.model.specs.Openings.{given}
use Rattle.model.specs.Causes.{Cause, cause_if}
use Rattle.model.specs.Causes.Cause.{BadAnswer}
use Rattle.model.specs.Courses.{upstream_of, cause_of_frame, first_of_both, interrupts}
use Rattle.model.specs.ErrorClause.{rst_stream, acks, reset_for, is_plainly_flagged, is_filled}
use Rattle.theory_errors.specs.Summary.{Outline, carried_in, Stream as Kept, Summary}
use Rattle.theory_errors.specs.Judging.{active_in, is_active_in, completed_in, fault_for, is_crowded_in, opened_with, are_last}

-- ---- the entry and its stream

-- the stream that an entry is about, or 0
abbrev pub about_in : Summary → Entry → ℕ
about_in s (Came noted) = noted.frame.id
about_in s (Happened event) = given (upstream_of event) s.given
about_in s _ = 0

-- the fault of an entry
abbrev pub fault_in : Summary → Entry → Option Fault
fault_in s e = fault_for (s.stream (about_in s e)).outline s e

-- the items that it brings a stream
abbrev pub items_in : ℕ → Summary → Entry → List Item
items_in stream s (Came noted) =
    if noted.frame.id == stream then frame_items (completed_in s.block noted.frame) noted else []
items_in stream s _ = []

-- ---- causes

-- Why the entry is answered; `fails` says that an answer failed with it.
abbrev pub cause_in : Setup → Bool → Outline → Summary → Entry → Option Fault → Option Cause
cause_in setup fails outline s (Came noted) None = cause_of_frame setup (carried_in outline) (completed_in s.block noted.frame) noted
cause_in setup fails outline s (Happened event) found = cause_if fails BadAnswer
cause_in setup fails outline s _ _ = None

-- the cause that an entry is for a stream
abbrev pub new_cause_in : Setup → Bool → ℕ → Summary → Entry → Outline → Option Fault → Option Cause
new_cause_in setup fails stream s e outline found =
    if about_in s e == stream && nat_lt 0 stream then cause_in setup fails outline s e found else None

-- ---- the course of a stream

-- what the head declares, with these items behind others
abbrev pub declared_with : Bool → Option ℕ → List Item → Option ℕ
declared_with begun before [] = before
declared_with true before (item ∷ items) = before
declared_with false before (item ∷ items) = declared (item ∷ items)

-- what is needed of a stream's course behind an entry
abbrev pub outline_behind : Outline → Bool → List Item → Option Cause → Bool → Outline
outline_behind outline interrupted new cause head_out = record {
  begun = if outline.over || interrupted then outline.begun else outline.begun || is_begun new;
  declared = if outline.over || interrupted then outline.declared else declared_with outline.begun outline.declared new;
  octets = if outline.over || interrupted then outline.octets else outline.octets + length (body_of new);
  over = outline.over || interrupted || list_any ends_with new;
  cause = first_of_both outline.cause cause;
  head_out = if is_some outline.cause then outline.head_out else is_some cause && head_out;
}

-- what is needed of a stream's course behind an entry with this fault
abbrev pub outline_from : Setup → Bool → ℕ → Summary → Entry → Kept → Option Fault → Outline
outline_from setup fails stream s e kept found =
    let cause = new_cause_in setup fails stream s e kept.outline found in
    outline_behind kept.outline (interrupts stream e found cause) (items_in stream s e) cause kept.head_out

-- the same, from the summary
abbrev pub next_outline : Setup → Bool → ℕ → Summary → Entry → Outline
next_outline setup fails stream s e =
    outline_from setup fails stream s e (s.stream stream) (fault_for (s.stream stream).outline s e)

-- ---- what is owed

-- the streams that were opened, with the entry
abbrev pub opened_after : Summary → Entry → List ℕ
opened_after s (Came noted) = opened_with s noted
opened_after s _ = s.opened

-- whether the operator asked for the end, with the entry
abbrev pub drained_after : Bool → Entry → Bool
drained_after before (Happened event) = is_drain event || before
drained_after before _ = before

-- the highest of these ids, or 0
abbrev pub highest_in : List ℕ → ℕ
highest_in opened = fold max 0 opened

-- the GOAWAY that the last stream calls for, or the operator's wish for the end
abbrev pub last_goaway_in : Summary → Entry → List Frame
last_goaway_in s e =
    if are_last s (drained_after s.drained e) (opened_after s e)
    then goaway (highest_in (opened_after s e)) no_error ∷ []
    else []

-- the code of the GOAWAY of an error
abbrev pub code_of_goaway_in : Summary → ℕ → ℕ
code_of_goaway_in s code = if is_crowded_in s then enhance_your_calm else code

-- what an entry calls for before all else
abbrev pub owed_first_in : Summary → Entry → Option Fault → List Frame
owed_first_in s e (Some (Connection code)) = goaway (highest_in (opened_after s e)) (code_of_goaway_in s code) ∷ []
owed_first_in s e (Some (Stream code)) = last_goaway_in s e ++ rst_stream (about_in s e) code ∷ []
owed_first_in s e _ = last_goaway_in s e

-- the reset of a stream by a cause, where a response's final head is out
abbrev pub resets_in : Setup → Bool → Summary → Entry → List Frame
resets_in setup fails s e =
    let now = next_outline setup fails (about_in s e) s e in
    reset_for (about_in s e) now.head_out (s.stream (about_in s e)).outline.cause now.cause

-- the reset behind a response that ends before its request
abbrev pub reset_behind_in : Summary → Entry → List Frame
reset_behind_in s (Sent noted) =
    if ends_by (completed_in s.block_out noted.frame) noted.frame && not (s.stream noted.frame.id).ended_by_client
    then rst_stream noted.frame.id no_error ∷ []
    else []
reset_behind_in s _ = []

-- what an entry calls for, the oldest first
abbrev pub owes_in : Setup → Bool → Summary → Entry → List Frame
owes_in setup fails s e =
    owed_first_in s e (fault_in s e) ++ (acks e (fault_in s e) ++ (resets_in setup fails s e ++ reset_behind_in s e))

-- ---- what may be sent, and the end

-- octets are given back, with the reserved bit unset, to the connection, or to an active stream that the client hasn't ended, while not too
-- many are untaken
abbrev pub is_given_back_in : Summary → Frame → Bool
is_given_back_in s frame =
    length frame.payload == 4 && nat_lt (number_field frame.payload) 2147483648
    && nat_lt 0 (increment frame)
    && not (is_crowded_in s)
    && (frame.id == 0 || is_active_in frame.id s && not (s.stream frame.id).ended_by_client)

-- a part of a response to an active stream that the gateway hasn't ended, which may go out now and fills its frame where its block goes on
abbrev pub is_part_in : Summary → Frame → Bool
is_part_in s frame =
    is_active_in frame.id s && not (s.stream frame.id).ended_by_gateway
    && (not (is_empty frame.payload) || frame.kind == data_kind && ends_stream frame)
    && (frame.kind == continuation_kind || nat_lt s.untaken high_water) && is_filled frame

-- a part of a response, or octets given back, as they may be sent
abbrev pub is_rightly_sent_in : Summary → Frame → Bool
is_rightly_sent_in s frame =
    is_plainly_flagged frame && (if frame.kind == window_update_kind then is_given_back_in s frame else is_part_in s frame)

-- the connection is to end
abbrev pub must_end_in : Summary → Bool
must_end_in s = s.ends || (s.drained || length s.opened == most_streams) && length (active_in s) == 0
