-- DATA: the book behind it (RFC 9113, sections 6.1 and 6.9.1).
use Rattle.std.proofs.Common.{◌≡◌, ℕ, Bool, true, false, ◌&&◌, ◌||◌, ◌==◌, nat_lt, if◌then◌else◌, List, [], ◌∷◌, ◌+◌, length, Option, Some, None, refl, sym, ◌∙◌, ap, arith}
use Rattle.std.proofs.lemmas.Bool.{eq-eqb}
use Rattle.std.proofs.lemmas.Bool.Decides.{nat_tests}
use Rattle.std.specs.Prelude.{pos, ◌-ℤ◌, is_some}
use Rattle.model.specs.Frames.{Frame, ends_stream, content}
use Rattle.model.specs.Messages.Item.{Content}
use Rattle.model.specs.Setup.{Setup}
use Rattle.model.specs.Causes.{Cause, cause_if}
use Rattle.model.specs.Causes.Cause.{LargeBody}
use Rattle.model.specs.Errors.{Fault, first_of, or_else}
use Rattle.model.specs.ErrorClause.{is_fatal}
use Rattle.theory_errors.specs.Summary.{Outline, Stream as Kept, Summary}
use Rattle.theory_errors.specs.Judging.{frame_rows_in, malformed_in, fault_for}
use Rattle.theory_errors.specs.Owing.{fault_in, outline_behind, outline_from, next_outline}
use Rattle.theory_errors.specs.After.{is_sound, stream_from}
use Rattle.theory_errors.specs.Rows.{Row, find, kept_in, row_behind, slot_of}
use Rattle.theory_errors.specs.Rows.Slot.{Over}
use Rattle.theory_errors.specs.Book.{Book, summary_in}
use Rattle.theory_errors.specs.Tidy.{IsRow, AreKept}
use Rattle.theory_errors.specs.Quiet.{coming, heard}
use Rattle.theory_errors.proofs.Elsewhere.{none_more, kept_same}
use Rattle.streams.specs.Asked.{is_active, changed, with_slot}
use Rattle.streams.specs.Courses.{outline_with}
use Rattle.streams.specs.Steps.{taken}
use Rattle.streams.proofs.Searches.{IsFound}
use Rattle.streams.proofs.Changes.{slot_left, slot_given}
use Rattle.connection_state.specs.Judgement.{IsPlain, data_frame, behind, reset_behind}
use Rattle.connection_state.proofs.Rows.{later_rows, fault_later, not_fatal, rows_behind}
use Rattle.connection_state.proofs.Streams.{rows_stay, begun, stream_behind, reset_left}

-- an id that isn't 0 is above it
above_zero : (id : ℕ) → (id == 0) ≡ false → nat_lt 0 id ≡ true
above_zero id is = grind (arith, nat_tests, is)

module _ (setup : Setup) (b : Book) (flags id : ℕ) (payload : List ℕ) (of_stream : (id == 0) ≡ false) (sound : first_of (frame_rows_in (summary_in b) (data_frame flags id payload)) ≡ None) (kept : AreKept b.rows) where
  -- what is kept before it
  abbrev s : Summary
  s = summary_in b

  abbrev frame : Frame
  frame = data_frame flags id payload

  plain : IsPlain (data_frame flags id payload)
  plain = record { no_headers = refl; no_continuation = refl }

  -- What isn't an error of the connection isn't one whatever its stream carried.
  all_mild : is_fatal (fault_in s (coming frame)) ≡ false → (outline : Outline) → is_fatal (fault_for outline s (coming frame)) ≡ false
  all_mild mild outline =
      not_fatal s frame outline sound (later (first_of (later_rows s frame)) (sym (ap is_fatal (fault_later s frame sound (find b.rows id).outline)) ∙ mild))
    where
      later : (o : Option Fault) → is_fatal (or_else o (malformed_in (find b.rows id).outline s (coming frame))) ≡ false → is_fatal o ≡ false
      later None is = refl
      later (Some f) is = is

  -- Of one whose stream isn't active nothing comes, but that the connection has less room.
  pub data_behind_none : is_active b.rows id ≡ false → is_fatal (fault_in s (coming frame)) ≡ false → behind setup b frame ≡ record (heard b frame) { room = b.room -ℤ pos (length payload) }
  data_behind_none idle mild =
      stream_behind setup b frame plain of_stream sound kept (b.room -ℤ pos (length payload)) b.rows refl refl
      (rows_stay setup b frame kept plain (begun setup b frame plain of_stream sound kept) (all_mild mild) idle)
      mild

  -- Behind one that is an error of its stream that is reset.
  pub data_reset : (code : ℕ) → b.block_out ≡ None → b.closed ≡ false → is_fatal (fault_in s (coming frame)) ≡ false → reset_behind setup b frame code ≡ record (heard b frame) { room = b.room -ℤ pos (length payload); rows = changed id (Over true) b.rows }
  data_reset code none_out open_yet mild =
      reset_left setup b frame code plain of_stream sound kept (b.room -ℤ pos (length payload)) none_out open_yet refl refl (all_mild mild)

  -- ---- what is left of its stream by one that has no fault

  -- what is needed of the course
  abbrev pub next_course : Kept → Outline
  next_course k = outline_with (content frame) (ends_stream frame) setup.max_body k.head_out k.outline

  course_behind : (k : Kept) → outline_from setup false id s (coming frame) k None ≡ next_course k
  course_behind k =
      ap (λ x. course_by x (nat_lt 0 id)) (eq-eqb id id refl)
      ∙ ap (λ x. course_by true x) (above_zero id of_stream)
    where
      course_by : Bool → Bool → Outline
      course_by own some =
          let cause : Option Cause = if own && some then cause_if (nat_lt setup.max_body (k.outline.octets + length (content frame))) LargeBody else None in
          outline_behind k.outline (is_some cause) (if own then Content (content frame) (ends_stream frame) ∷ [] else []) cause k.head_out

  -- all of it
  abbrev pub next : Kept → Kept
  next k = taken (length payload) (next_course k) (ends_stream frame) k

  gives : (k : Kept) → stream_from setup false s (coming frame) id k None ≡ next k
  gives k = kept_same (next k) (stream_from setup false s (coming frame) id k None)
      (ap (λ x. x && ends_stream frame || k.ended_by_client) (eq-eqb id id refl))
      refl refl refl
      (none_more (is_sound s frame) k.balance 0 refl)
      (ap (λ x. k.room -ℤ pos (if x then length payload else 0)) (eq-eqb id id refl))
      refl
      (course_behind k)

  module _ (right : fault_in s (coming frame) ≡ None) where
    own : (row : Row) → IsRow row → IsFound b.rows row → row.id ≡ id → row_behind setup false s (coming frame) row ≡ with_slot id (slot_of (next (find b.rows id))) row
    own row is found same =
        let told : kept_in row.slot ≡ find b.rows id = sym found.1 ∙ ap (find b.rows) same in
        ap (λ (n : ℕ). record { id = row.id; slot = slot_of (stream_from setup false s (coming frame) n (kept_in row.slot) (fault_for (kept_in row.slot).outline s (coming frame))) }) same
        ∙ ap (λ (k : Kept). record { id = row.id; slot = slot_of (stream_from setup false s (coming frame) id k (fault_for k.outline s (coming frame))) }) told
        ∙ ap (λ (o : Option Fault). record { id = row.id; slot = slot_of (stream_from setup false s (coming frame) id (find b.rows id) o) }) right
        ∙ ap (λ (k : Kept). record { id = row.id; slot = slot_of k }) (gives (find b.rows id))
        ∙ sym (slot_given id (slot_of (next (find b.rows id))) row same)

    pub data_taken : behind setup b frame ≡ record (heard b frame) { room = b.room -ℤ pos (length payload); rows = changed id (slot_of (next (find b.rows id))) b.rows }
    data_taken =
        stream_behind setup b frame plain of_stream sound kept (b.room -ℤ pos (length payload)) (changed id (slot_of (next (find b.rows id))) b.rows) refl refl
        (rows_behind setup b frame (with_slot id (slot_of (next (find b.rows id)))) kept plain (begun setup b frame plain of_stream sound kept)
        (all_mild (ap is_fatal right))
        own
        (λ row apart. slot_left id (slot_of (next (find b.rows id))) row apart))
        (ap is_fatal right)

    -- the course that conduct tells
    pub data_course : next_outline setup false id s (coming frame) ≡ next_course (find b.rows id)
    data_course = ap (λ (o : Option Fault). outline_from setup false id s (coming frame) (find b.rows id) o) right ∙ course_behind (find b.rows id)
