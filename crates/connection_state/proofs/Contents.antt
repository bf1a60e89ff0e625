-- DATA that has no fault, by what is read of its stream.
use Rattle.theory_errors.specs.Judging.{room_in}
use Rattle.std.proofs.Common.{◌≡◌, ℕ, Bool, true, false, not, ◌&&◌, ◌+◌, ◌==◌, nat_lt, List, [], ◌∷◌, length, Option, Some, None, refl, sym, ◌∙◌, ap}
use Rattle.std.specs.Prelude.{pos, ◌-ℤ◌, int_lt, is_some, option_map}
use Rattle.model.specs.Frames.{Frame, ends_stream, content, protocol_error, flow_control_error, stream_closed}
use Rattle.model.specs.Setup.{Setup}
use Rattle.model.specs.Causes.{Cause, cause_if}
use Rattle.model.specs.Causes.Cause.{LargeBody}
use Rattle.model.specs.Courses.{first_of_both}
use Rattle.model.specs.Errors.{Fault, first_of}
use Rattle.model.specs.Errors.Fault.{Stream}
use Rattle.model.specs.FrameErrors.{fault_if}
use Rattle.theory_errors.specs.Summary.{Outline, Stream as Kept}
use Rattle.theory_errors.specs.Owing.{fault_in}
use Rattle.theory_errors.specs.Rows.{find, slot_of}
use Rattle.theory_errors.specs.Tidy.{AreKept}
use Rattle.theory_errors.specs.Quiet.{coming}
use Rattle.streams.specs.Asked.{changed}
use Rattle.streams.specs.Courses.{is_malformed_with, outline_with}
use Rattle.streams.specs.Steps.{taken}
use Rattle.connection_state.specs.Inbound.{Inbound, Outside, book_of, told_of}
use Rattle.connection_state.specs.Admission.{IsAdmitted}
use Rattle.connection_state.specs.Judgement.{data_frame, behind, cause_before, cause_behind}
use Rattle.connection_state.proofs.DataFaults.{active_known, data_active}
use Rattle.connection_state.proofs.DataBehind.{data_taken, data_course}
use Rattle.connection_state.proofs.Answering.{IsSound}

-- The code that is read of its stream is that of its fault.
pub by_code : (i : Inbound) (flags id : ℕ) (payload : List ℕ) (of_stream : (id == 0) ≡ false) → IsSound i (data_frame flags id payload) → IsAdmitted i (data_frame flags id payload) → (live : Kept) → find i.rows id ≡ live → (ends : Bool) → ends ≡ ends_stream (data_frame flags id payload) → (own : ℕ) → i.own ≡ own → (code : Option ℕ)
    → option_map Stream code ≡ first_of (fault_if (int_lt (room_in own live) (pos (length payload))) (Stream flow_control_error) ∷ fault_if live.ended_by_client (Stream stream_closed) ∷ fault_if (is_malformed_with (content (data_frame flags id payload)) ends live.outline) (Stream protocol_error) ∷ [])
    → (outside : Outside) → fault_in (told_of outside i) (coming (data_frame flags id payload)) ≡ option_map Stream code
by_code i flags id payload of_stream sound admitted live found ends told own same code is outside =
    data_active (book_of outside i) flags id payload of_stream (sound outside) (active_known i.drained i.rows id of_stream admitted.active) admitted.fits admitted.active
    ∙ ap (λ (k : Kept). by_rows i.own k (ends_stream (data_frame flags id payload))) found
    ∙ ap (λ x. by_rows i.own live x) (sym told)
    ∙ ap (λ n. by_rows n live ends) same
    ∙ sym is
  where
    by_rows : ℕ → Kept → Bool → Option Fault
    by_rows n k x = first_of (fault_if (int_lt (room_in n k) (pos (length payload))) (Stream flow_control_error) ∷ fault_if k.ended_by_client (Stream stream_closed) ∷ fault_if (is_malformed_with (content (data_frame flags id payload)) x k.outline) (Stream protocol_error) ∷ [])

-- the cause that octets of a body are is new, or none is
replied_so : (old : Option Cause) (past : Bool) → (not (is_some old) && is_some (first_of_both old (cause_if past LargeBody))) ≡ true → (old ≡ None) × (first_of_both old (cause_if past LargeBody) ≡ Some LargeBody)
replied_so None true is = (refl, refl)
replied_so None false is = absurd (let no : false ≡ true = is in cc)
replied_so (Some cause) past is = absurd (let no : false ≡ true = is in cc)

not_replied : (old : Option Cause) (past : Bool) → (not (is_some old) && is_some (first_of_both old (cause_if past LargeBody))) ≡ false → first_of_both old (cause_if past LargeBody) ≡ old
not_replied None true is = absurd (let no : true ≡ false = is in cc)
not_replied None false is = refl
not_replied (Some cause) past is = refl

module _ (setup : Setup) (outside : Outside) (i : Inbound) (flags id : ℕ) (payload : List ℕ) (of_stream : (id == 0) ≡ false) (sound : IsSound i (data_frame flags id payload)) (kept : AreKept i.rows) (right : fault_in (told_of outside i) (coming (data_frame flags id payload)) ≡ None) where
  abbrev frame : Frame
  frame = data_frame flags id payload

  abbrev own : Kept
  own = find i.rows id

  -- the course behind it
  abbrev pub course : Outline
  course = outline_with (content frame) (ends_stream frame) setup.max_body own.head_out own.outline

  -- It leaves this course, and takes room of both windows.
  pub content_left : (next : Outline) → next ≡ course
      → book_of outside (record i { has_come = true; continuations = 0; last = id; room = i.room -ℤ pos (length payload); rows = changed id (slot_of (taken (length payload) next (ends_stream frame) own)) i.rows }) ≡ behind setup (book_of outside i) frame
  content_left next is =
      ap (λ (b : Outline). book_of outside (record i { has_come = true; continuations = 0; last = id; room = i.room -ℤ pos (length payload); rows = changed id (slot_of (taken (length payload) b (ends_stream frame) own)) i.rows })) is
      ∙ sym (data_taken setup (book_of outside i) flags id payload of_stream (sound outside) kept right)

  -- the cause that conduct tells
  told : cause_behind setup (book_of outside i) frame ≡ course.cause
  told = ap (λ (b : Outline). b.cause) (data_course setup (book_of outside i) flags id payload of_stream (sound outside) kept right)

  module _ (before next : Outline) (was : before ≡ own.outline) (is : next ≡ course) where
    both : (not (is_some own.outline.cause) && is_some course.cause) ≡ (not (is_some before.cause) && is_some next.cause)
    both = ap (λ (b : Outline). not (is_some b.cause) && is_some course.cause) (sym was) ∙ ap (λ (b : Outline). not (is_some before.cause) && is_some b.cause) (sym is)

    pub new_cause : (not (is_some before.cause) && is_some next.cause) ≡ true → (cause_before (book_of outside i) frame ≡ None) × (cause_behind setup (book_of outside i) frame ≡ Some LargeBody)
    new_cause replied =
        let so = replied_so own.outline.cause (nat_lt setup.max_body (own.outline.octets + length (content frame))) (both ∙ replied) in
        (so.0, told ∙ so.1)

    pub no_new_cause : (not (is_some before.cause) && is_some next.cause) ≡ false → cause_behind setup (book_of outside i) frame ≡ cause_before (book_of outside i) frame
    no_new_cause none = told ∙ not_replied own.outline.cause (nat_lt setup.max_body (own.outline.octets + length (content frame))) (both ∙ none)
