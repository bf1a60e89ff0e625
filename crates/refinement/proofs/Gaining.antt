-- What a frame adds to its stream's request, by the frame's fault, by what it is answered with, and by how far the request is.
use Rattle.std.proofs.Common.{◌≡◌, ℕ, ◌≤◌, ◌⊎◌, Bool, true, false, ◌&&◌, ◌||◌, ◌==◌, if◌then◌else◌, List, [], length, Option, Some, None, refl, sym, ◌∙◌, ap, inl, inr}
use Rattle.std.proofs.lemmas.Bool.{or_right}
use Rattle.model.specs.Messages.{Item}
use Rattle.model.specs.Frames.{data_kind, headers_kind, rst_stream_kind, protocol_error, stream_closed}
use Rattle.model.specs.Setup.{Setup}
use Rattle.model.specs.Tapes.{Noted}
use Rattle.model.specs.Tapes.Entry.{Came}
use Rattle.model.specs.Decoding.{Partial}
use Rattle.model.specs.StreamStates.{StreamState, Standing, Verdict, opened_verdict, verdict, is_content}
use Rattle.model.specs.Limits.{most_streams}
use Rattle.model.specs.StreamStates.StreamState.{ResetByUs, ResetByPeer}
use Rattle.model.specs.StreamStates.Standing.{WholeConnection, Opened, Idle, ServerIdle, Skipped, Beyond}
use Rattle.model.specs.Lifetimes.{state_by_ends, may_open}
use Rattle.model.specs.Errors.{Fault, first_of, or_else}
use Rattle.model.specs.Errors.Fault.{Connection, Stream, Discarded}
use Rattle.model.specs.FrameErrors.{fault_if}
use Rattle.model.specs.ErrorTable.{fault_of, judged, grants}
use Rattle.model.specs.Streams.{frame_items}
use Rattle.model.specs.Causes.{Cause}
use Rattle.model.specs.Courses.{interrupts}
use Rattle.theory_errors.specs.Summary.{Summary}
use Rattle.theory_errors.specs.Judging.{completed_in, rows_in, malformed_in, misplaced_in, fault_by_standing_in, fault_on_in, standing_in, active_in}
use Rattle.theory_errors.specs.Owing.{fault_in, new_cause_in}
use Rattle.theory_errors.proofs.Wanted.{bears, Tells, standing_tells}
use Rattle.theory_errors.proofs.Seen.{none_at}
use Rattle.theory.specs.Rule.{added_in}
use Rattle.theory.proofs.Adding.{none_wrong, none_idle}

-- ---- nothing is added

both_empty : (b : Bool) (xs : List Item) → b ≡ true → (if b then [] else xs) ≡ []
both_empty true xs e = refl
both_empty false xs e = cc

module _ (setup : Setup) (s : Summary) (noted : Noted) where
  abbrev pub id : ℕ
  id = noted.frame.id

  -- the cause that the frame is for its stream
  abbrev pub caused : Option Cause
  caused = new_cause_in setup false id s (Came noted) (s.stream id).outline (fault_in s (Came noted))

  -- where the items are over
  pub none_behind : (s.stream id).outline.over ≡ true → added_in setup s noted ≡ []
  none_behind over = both_empty ((s.stream id).outline.over || interrupts id (Came noted) (fault_in s (Came noted)) caused) _ (ap (λ b. b || interrupts id (Came noted) (fault_in s (Came noted)) caused) over)

  -- where the frame has a fault
  pub none_at_fault : (fault : Fault) → fault_in s (Came noted) ≡ Some fault → added_in setup s noted ≡ []
  none_at_fault fault is = none_wrong setup noted (s.stream id) s fault is

  -- where the gateway replies itself from the frame on
  pub none_replied : (cause : Cause) → caused ≡ Some cause → added_in setup s noted ≡ []
  none_replied cause is =
      both_empty ((s.stream id).outline.over || interrupts id (Came noted) (fault_in s (Came noted)) caused) _
      (or_right (s.stream id).outline.over _ (ap (λ (c : Option Cause). interrupts id (Came noted) (fault_in s (Came noted)) c) is ∙ or_right _ true refl))

  -- where the frame neither completes a header block nor is DATA
  pub none_borne : bears s noted.frame ≡ false → added_in setup s noted ≡ []
  none_borne idle = none_idle setup noted (s.stream id) s idle

  -- ---- something is

  -- where it has no fault, is no reset and no cause, and the items aren't over, what it brings
  pub all_borne : (s.stream id).outline.over ≡ false → fault_in s (Came noted) ≡ None → (noted.frame.kind == rst_stream_kind) ≡ false → caused ≡ None → added_in setup s noted ≡ frame_items (completed_in s.block noted.frame) noted
  all_borne goes_on faultless no_reset no_cause =
      ap (λ b. if b || interrupts id (Came noted) (fault_in s (Came noted)) caused then [] else frame_items (completed_in s.block noted.frame) noted) goes_on
      ∙ ap (λ (c : Option Cause). if interrupts id (Came noted) (fault_in s (Came noted)) c then [] else frame_items (completed_in s.block noted.frame) noted) no_cause
      ∙ ap (λ (found : Option Fault). if interrupts id (Came noted) found None then [] else frame_items (completed_in s.block noted.frame) noted) faultless
      ∙ ap (λ b. if (b && id == id) || false then [] else frame_items (completed_in s.block noted.frame) noted) no_reset

-- ---- the client hadn't ended the stream

-- neither HEADERS nor DATA pass on a stream that the client has ended
unended_by : (kind : ℕ) → is_content kind ≡ true → (us peer client gateway : Bool) → fault_of (opened_verdict (if us then ResetByUs else (if peer then ResetByPeer else state_by_ends client gateway)) kind) ≡ None → client ≡ false
unended_by kind content us peer false gateway passes = refl
unended_by kind content true peer true gateway passes = absurd (cc)
unended_by kind content false true true gateway passes = absurd (let no = ap (λ b. fault_of (if b then Verdict.Fails (Connection stream_closed) else Verdict.Fails Discarded)) (sym content) ∙ passes in cc)
unended_by kind content false false true true passes = absurd (let no = ap (λ b. fault_of (if b then Verdict.Fails (Connection stream_closed) else Verdict.Fails Discarded)) (sym content) ∙ passes in cc)
unended_by kind content false false true false passes = absurd (let no = ap (λ b. fault_of (if b then Verdict.Fails (Stream stream_closed) else Verdict.Passes)) (sym content) ∙ passes in cc)

first_none : (a b : Option Fault) → or_else a b ≡ None → a ≡ None
first_none None b e = refl
first_none (Some fault) b e = e

module _ (s : Summary) (id : ℕ) (kind : ℕ) (content : is_content kind ≡ true) (idle : may_open s.drained s.opened id ≡ true → (s.stream id).ended_by_client ≡ false) where
  -- on a stream that a standing allows it on
  unended_at : (n : ℕ) (found : Standing) → (kind ≡ headers_kind) ⊎ ((id == 0) ≡ false) × (kind ≡ data_kind) → Tells s.drained s.stream s.opened id found → fault_of (verdict n found kind) ≡ None → (s.stream id).ended_by_client ≡ false
  unended_at n (Opened state) of tells passes =
      unended_by kind content (s.stream id).reset_by_gateway (s.stream id).reset_by_client (s.stream id).ended_by_client (s.stream id).ended_by_gateway (ap (λ (x : StreamState). fault_of (opened_verdict x kind)) (sym tells.1) ∙ passes)
  unended_at n Idle of tells passes = idle tells
  unended_at n WholeConnection (inl is) tells passes = absurd (let no = ap (λ k. fault_of (verdict n WholeConnection k)) (sym is) ∙ passes in cc)
  unended_at n WholeConnection (inr is) tells passes = absurd (let no : true ≡ false = sym tells ∙ is.0 in cc)
  unended_at n ServerIdle of tells passes = absurd (cc)
  unended_at n Skipped (inl is) tells passes = absurd (let no = ap (λ k. fault_of (verdict n Skipped k)) (sym is) ∙ passes in cc)
  unended_at n Skipped (inr is) tells passes = absurd (let no = ap (λ k. fault_of (verdict n Skipped k)) (sym is.1) ∙ passes in cc)
  unended_at n Beyond of tells passes = absurd (cc)

module _ (s : Summary) (noted : Noted) (few : length s.opened ≤ most_streams) (faultless : fault_in s (Came noted) ≡ None) (idle : may_open s.drained s.opened noted.frame.id ≡ true → (s.stream noted.frame.id).ended_by_client ≡ false) where
  pub no_row : first_of (rows_in s noted) ≡ None
  no_row = first_none (first_of (rows_in s noted)) (malformed_in (s.stream noted.frame.id).outline s (Came noted)) faultless

  pub stands : fault_by_standing_in s noted.frame ≡ None
  stands = none_at 16 (rows_in s noted) no_row

  tells : Tells s.drained s.stream s.opened noted.frame.id (standing_in s noted.frame.id)
  tells = standing_tells s.drained s.stream s.opened noted.frame.id few

  -- A frame without a fault that completes a header block is on a stream that the client hadn't ended.
  pub unended_with_block : (block : Partial) → completed_in s.block noted.frame ≡ Some block → (s.stream noted.frame.id).ended_by_client ≡ false
  unended_with_block block is =
      unended_at s noted.frame.id headers_kind refl idle (length (active_in s)) (standing_in s noted.frame.id) (inl refl) tells
      (ap (λ (b : Option Partial). fault_on_in s noted.frame.id (judged b noted.frame)) (sym is) ∙ stands)

  -- So is DATA.
  pub unended_with_data : completed_in s.block noted.frame ≡ None → noted.frame.kind ≡ data_kind → (noted.frame.id == 0) ≡ false → (s.stream noted.frame.id).ended_by_client ≡ false
  unended_with_data none kind of_stream =
      unended_at s noted.frame.id data_kind refl idle (length (active_in s)) (standing_in s noted.frame.id) (inr (of_stream, refl)) tells
      (ap (λ (k : Option ℕ). fault_on_in s noted.frame.id k) (sym judged_so) ∙ ap (λ (b : Option Partial). fault_on_in s noted.frame.id (judged b noted.frame)) (sym none) ∙ stands)
    where
      judged_so : judged None noted.frame ≡ Some data_kind
      judged_so = ap (λ k. if k == data_kind || k == rst_stream_kind || grants (record noted.frame { kind = k }) then Some k else None) kind

  -- DATA without a fault is of a stream.
  pub data_of_stream : noted.frame.kind ≡ data_kind → (noted.frame.id == 0) ≡ false
  data_of_stream kind = on_stream (noted.frame.id == 0) refl
    where
      on_stream : (b : Bool) → (noted.frame.id == 0) ≡ b → (noted.frame.id == 0) ≡ false
      on_stream false e = e
      on_stream true e =
          let placed : misplaced_in noted.frame ≡ None = none_at 4 (rows_in s noted) no_row in
          let wrong : misplaced_in noted.frame ≡ Some (Connection protocol_error) =
          ap (λ (k : ℕ). misplaced_in (record noted.frame { kind = k })) kind ∙ ap (λ (b : Bool). fault_if (b || false || false || false) (Connection protocol_error)) e in
          absurd (let no : None ≡ Some (Connection protocol_error) = sym placed ∙ wrong in cc)
