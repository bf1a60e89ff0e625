-- Settings have no fault but of the connection, and no frame that opens its stream has one of it.
use Rattle.std.proofs.Common.{◌≡◌, Bool, true, false, not, ◌&&◌, ◌==◌, if◌then◌else◌, List, [], ◌∷◌, Option, Some, None, refl, sym, ◌∙◌, ap}
use Rattle.std.proofs.lemmas.Bool.{and_parts, eqb-true}
use Rattle.std.specs.Prelude.{is_some, is_none, nat_lt}
use Rattle.model.specs.Frames.{Frame, settings_kind, protocol_error, flow_control_error, is_ack}
use Rattle.model.specs.Setup.{Setup}
use Rattle.model.specs.WindowsOnTape.{has_settings}
use Rattle.model.specs.Lifetimes.{may_open, opens_by}
use Rattle.model.specs.Errors.{Fault, first_of, or_else}
use Rattle.model.specs.Errors.Fault.{Stream}
use Rattle.model.specs.FrameErrors.{fault_if}
use Rattle.model.specs.ErrorClause.{is_fatal}
use Rattle.model.specs.Decoding.{Partial}
use Rattle.model.specs.Tapes.Note.{NoBlock}
use Rattle.theory_errors.specs.Summary.{Outline, Summary}
use Rattle.theory_errors.specs.Judging.{completed_in, fault_for, malformed_in, no_goaway_in, stream_update_in, stream_data_in, fault_by_standing_in, is_active_in, shifts_past_in}
use Rattle.model.specs.ErrorTable.{unless_of_stream}
use Rattle.model.specs.SettingValues.{initial_window_after, settings_fault, settings_in}
use Rattle.theory_errors.specs.Owing.{fault_in, cause_in}
use Rattle.theory_errors.specs.Quiet.{noted_of, coming}
use Rattle.theory_errors.specs.After.{is_sound}
use Rattle.theory_errors.proofs.Calm.{calm, early_rows, early_fatal, skip, idle_frame_is}
use Rattle.theory_header_tables.specs.State.{named_by}
use Rattle.theory_header_tables.specs.Verdicts.{verdict_in}
use Rattle.header_blocks.specs.Encoding.{Encoding}
use Rattle.connection_state.specs.Judgement.{IsPlain}
use Rattle.connection_state.proofs.Rows.{opens_no_last}
use Rattle.refinement.proofs.Gaining.{caused}
use Rattle.refinement.proofs.Coming.{encoding_with}

-- rows of which each asks for what isn't so
quiet_later : (a c : Bool) → or_else (first_of (None ∷ first_of (fault_if (a && false) (Stream protocol_error) ∷ fault_if (a && false) (Stream flow_control_error) ∷ []) ∷ fault_if (a && false) (Stream flow_control_error) ∷ None ∷ None ∷ [])) (fault_if (c && false) (Stream protocol_error)) ≡ None
quiet_later true true = refl
quiet_later true false = refl
quiet_later false true = refl
quiet_later false false = refl

module _ (s : Summary) (outline : Outline) (frame : Frame) where
  abbrev settings : Frame
  settings = record frame { kind = settings_kind }

  -- the rows behind those of a header block, with this last one
  abbrev later_with : Option Fault → List (Option Fault)
  later_with last = unless_of_stream (fault_by_standing_in s settings) ∷ stream_update_in s settings ∷ stream_data_in s settings ∷ fault_by_standing_in s settings ∷ last ∷ []

  abbrev later : List (Option Fault)
  later = later_with (no_goaway_in s (noted_of settings))

  none_of_settings : is_fatal (fault_for outline s (coming settings)) ≡ false → fault_for outline s (coming settings) ≡ None
  none_of_settings mild =
      ap (λ (o : Option Fault). or_else o (malformed_in outline s (coming settings)))
      (skip (early_rows s (noted_of settings)) later (calm (early_rows s (noted_of settings)) later (malformed_in outline s (coming settings)) (early_fatal s (noted_of settings)) mild))
      ∙ ap (λ (last : Option Fault). or_else (first_of (later_with last)) (malformed_in outline s (coming settings))) (opens_no_last s settings)
      ∙ quiet_later (is_active_in frame.id s) (not (is_some outline.cause))

  -- Settings that are no error of the connection have no fault.
  pub settings_faultless : has_settings frame ≡ true → is_fatal (fault_for outline s (coming frame)) ≡ false → fault_for outline s (coming frame) ≡ None
  settings_faultless has mild =
      let kind : frame.kind ≡ settings_kind = eqb-true frame.kind settings_kind (and_parts (frame.kind == settings_kind) (not (is_ack frame)) has).0 in
      ap (λ k. fault_for outline s (coming (record frame { kind = k }))) kind
      ∙ none_of_settings (ap (λ k. is_fatal (fault_for outline s (coming (record frame { kind = k })))) (sym kind) ∙ mild)

module _ (s : Summary) (frame : Frame) where
  -- what isn't taken names no limits
  pub names_none : has_settings frame ≡ false → (encoding : Encoding) → encoding_with (named_by (verdict_in s frame) frame) encoding ≡ encoding
  names_none none encoding =
      ap (λ (b : Bool). encoding_with (named_by (record (verdict_in s frame) { is_taken = b }) frame) encoding)
      (ap (λ x. is_sound s frame && (x && is_none (settings_fault frame.payload) && not (shifts_past_in (initial_window_after s.first_size (settings_in frame.payload)) s))) none ∙ and_false (is_sound s frame))
    where
      and_false : (b : Bool) → (b && false) ≡ false
      and_false true = refl
      and_false false = refl

  -- nor does a frame with a fault that isn't one of the connection
  pub fault_names_none : (fault : Fault) → is_fatal (Some fault) ≡ false → fault_in s (coming frame) ≡ Some fault → (encoding : Encoding) → encoding_with (named_by (verdict_in s frame) frame) encoding ≡ encoding
  fault_names_none fault mild is = names_none (none (has_settings frame) refl)
    where
      none : (b : Bool) → has_settings frame ≡ b → has_settings frame ≡ false
      none false has = has
      none true has =
          absurd (let no : None ≡ Some fault = sym (settings_faultless s (s.stream frame.id).outline frame has (ap is_fatal is ∙ mild)) ∙ is in cc)

  -- A frame with such a fault is on no stream that may be opened.
  pub fault_not_idle : IsPlain frame → completed_in s.block frame ≡ None → (fault : Fault) → is_fatal (Some fault) ≡ false → fault_in s (coming frame) ≡ Some fault → may_open s.drained s.opened frame.id ≡ false
  fault_not_idle plain none fault mild is = by (may_open s.drained s.opened frame.id) refl
    where
      by : (b : Bool) → may_open s.drained s.opened frame.id ≡ b → may_open s.drained s.opened frame.id ≡ false
      by false may = may
      by true may =
          let idle = idle_frame_is s (noted_of frame) (s.stream frame.id).outline may (ap (λ (o : Option Partial). opens_by s.drained s.opened o NoBlock) none) (ap is_fatal is ∙ mild) (λ some. absurd (let no : false ≡ true = sym (ap (λ (o : Option Partial). is_some o) none) ∙ some in cc)) in
          absurd (let no : None ≡ Some fault = sym idle.no_fault ∙ is in cc)

  -- nor is it a cause
  pub fault_no_cause : (setup : Setup) (fault : Fault) → fault_in s (coming frame) ≡ Some fault → caused setup s (noted_of frame) ≡ None
  fault_no_cause setup fault is = by (frame.id == frame.id && nat_lt 0 frame.id)
    where
      by : (b : Bool) → (if b then cause_in setup false (s.stream frame.id).outline s (coming frame) (fault_in s (coming frame)) else None) ≡ None
      by false = refl
      by true = ap (λ (found : Option Fault). cause_in setup false (s.stream frame.id).outline s (coming frame) found) is
