-- Frames by how their stream stands: DATA and RST_STREAM without a fault are of an active stream, and what comes on one isn't discarded.
use Rattle.std.proofs.Common.{◌≡◌, ℕ, ◌≤◌, ◌%◌, Bool, true, false, not, ◌&&◌, ◌||◌, ◌==◌, if◌then◌else◌, List, [], ◌∷◌, length, Option, Some, None, refl, sym, ◌∙◌, ap}
use Rattle.std.proofs.lemmas.Bool.{and_parts, and_from, eqb-true}
use Rattle.std.specs.Prelude.{is_some, nat_lt}
use Rattle.model.specs.Frames.{Frame, headers_kind, data_kind, protocol_error, flow_control_error, push_promise_kind, refused_stream, stream_closed}
use Rattle.model.specs.StreamStates.{StreamState, Standing, Verdict, opened_verdict, verdict, is_content}
use Rattle.model.specs.Limits.{most_streams, most_active}
use Rattle.model.specs.StreamStates.StreamState.{ResetByUs, ResetByPeer}
use Rattle.model.specs.StreamStates.Standing.{WholeConnection, Opened, Idle, ServerIdle, Skipped, Beyond}
use Rattle.model.specs.Lifetimes.{state_by_ends}
use Rattle.model.specs.Errors.{Fault, first_of, or_else}
use Rattle.model.specs.Errors.Fault.{Connection, Stream, Discarded}
use Rattle.model.specs.FrameErrors.{fault_if, is_of_stream, is_of_connection, is_misplaced}
use Rattle.model.specs.ErrorTable.{fault_of, judged, unless_of_stream, grants_nothing, grants_past, is_past_room, is_malformed}
use Rattle.model.specs.ErrorClause.{is_fatal}
use Rattle.model.specs.Decoding.{Partial}
use Rattle.theory_errors.specs.Summary.{Outline, Stream as Kept, Summary, carried_in}
use Rattle.theory_errors.specs.Judging.{is_over_in, is_active_in, active_in, completed_in, rows_in, fault_on_in, fault_by_standing_in, malformed_in, misplaced_in, no_goaway_in, standing_in, stream_update_in, stream_data_in, room_in, window_in}
use Rattle.theory_errors.specs.Owing.{fault_in}
use Rattle.theory_errors.specs.Rows.{Row, ids_of, find}
use Rattle.theory_errors.specs.Quiet.{noted_of, coming}
use Rattle.theory_errors.specs.Book.{Book, summary_in}
use Rattle.theory_errors.specs.Tidy.{AreKept}
use Rattle.theory_errors.proofs.Calm.{calm, early_rows, early_fatal, skip}
use Rattle.theory_errors.proofs.Seen.{none_at}
use Rattle.theory_errors.proofs.Wanted.{Tells, standing_tells}
use Rattle.streams.specs.Asked.{has, is_active}
use Rattle.connection_state.proofs.Rows.{opens_no_last}
use Rattle.connection_state.proofs.Standings.{opened_standing}

-- ---- frames that pass

-- a stream on which a type passes isn't over
passes_live : (kind : ℕ) (us peer client gateway : Bool) → fault_of (opened_verdict (if us then ResetByUs else (if peer then ResetByPeer else state_by_ends client gateway)) kind) ≡ None → (us || peer || client && gateway) ≡ false
passes_live kind true peer client gateway passes = cc
passes_live kind false true client gateway passes = by (is_content kind) passes
  where
    by : (b : Bool) → fault_of (if b then Verdict.Fails (Connection stream_closed) else Verdict.Fails Discarded) ≡ None → true ≡ false
    by true none = cc
    by false none = cc
passes_live kind false false true true passes = by (is_content kind) passes
  where
    by : (b : Bool) → fault_of (if b then Verdict.Fails (Connection stream_closed) else Verdict.Fails Discarded) ≡ None → true ≡ false
    by true none = cc
    by false none = cc
passes_live kind false false true false passes = refl
passes_live kind false false false gateway passes = refl

module _ (b : Book) (id kind : ℕ) (of_stream : (id == 0) ≡ false) (no_headers : (kind == headers_kind) ≡ false) where
  abbrev s : Summary
  s = summary_in b

  active_at : (n : ℕ) (found : Standing) → Tells s.drained s.stream s.opened id found → fault_of (verdict n found kind) ≡ None → is_active b.rows id ≡ true
  active_at n (Opened state) tells passes =
      let k : Kept = find b.rows id in
      let on : is_over_in k ≡ false = passes_live kind k.reset_by_gateway k.reset_by_client k.ended_by_client k.ended_by_gateway (ap (λ (x : StreamState). fault_of (opened_verdict x kind)) (sym tells.1) ∙ passes) in
      and_from (has b.rows id) (not (is_over_in k)) tells.0 (ap not on)
  active_at n WholeConnection tells passes = absurd (let no : true ≡ false = sym tells ∙ of_stream in cc)
  active_at n Idle tells passes =
      absurd (let no : Some (Connection protocol_error) ≡ None = ap (λ x. fault_of (if x then (if nat_lt n most_active then Verdict.Opens else Verdict.Fails (Stream refused_stream)) else Verdict.Fails (Connection protocol_error))) (sym no_headers) ∙ passes in cc)
  active_at n ServerIdle tells passes = absurd (cc)
  active_at n Skipped tells passes = absurd (by (kind == headers_kind) (kind == data_kind) passes)
    where
      by : (x y : Bool) → fault_of (if x then Verdict.Fails (Connection protocol_error) else (if y then Verdict.Fails (Connection stream_closed) else Verdict.Fails Discarded)) ≡ None → ⊥
      by true y none = cc
      by false true none = cc
      by false false none = cc
  active_at n Beyond tells passes = absurd (cc)

-- where a fault is none, so is that of the rows
rows_none : (a b : Option Fault) → or_else a b ≡ None → a ≡ None
rows_none None b e = refl
rows_none (Some fault) b e = e

-- a stream on which DATA passes wasn't ended by the client
passes_open : (kind : ℕ) (us peer client gateway : Bool) → is_content kind ≡ true → fault_of (opened_verdict (if us then ResetByUs else (if peer then ResetByPeer else state_by_ends client gateway)) kind) ≡ None → client ≡ false
passes_open kind us peer false gateway content passes = refl
passes_open kind true peer true gateway content passes = cc
passes_open kind false true true gateway content passes =
    absurd (let no : Some (Connection stream_closed) ≡ None = ap (λ b. fault_of (if b then Verdict.Fails (Connection stream_closed) else Verdict.Fails Discarded)) (sym content) ∙ passes in cc)
passes_open kind false false true true content passes =
    absurd (let no : Some (Connection stream_closed) ≡ None = ap (λ b. fault_of (if b then Verdict.Fails (Connection stream_closed) else Verdict.Fails Discarded)) (sym content) ∙ passes in cc)
passes_open kind false false true false content passes =
    absurd (let no : Some (Stream stream_closed) ≡ None = ap (λ b. fault_of (if b then Verdict.Fails (Stream stream_closed) else Verdict.Passes)) (sym content) ∙ passes in cc)

module _ (b : Book) (frame : Frame) (kind : ℕ) (is : frame.kind ≡ kind) (of : is_of_stream kind ≡ true) (no_headers : (kind == headers_kind) ≡ false) (is_judged : judged None (record frame { kind = kind }) ≡ Some kind) (completes : completed_in b.block frame ≡ None) (few : length (ids_of b.rows) ≤ most_streams) (faultless : fault_in (summary_in b) (coming frame) ≡ None) where
  abbrev told : Summary
  told = summary_in b

  rows_faultless : first_of (rows_in told (noted_of frame)) ≡ None
  rows_faultless = rows_none (first_of (rows_in told (noted_of frame))) (malformed_in (told.stream frame.id).outline told (coming frame)) faultless

  of_stream : (frame.id == 0) ≡ false
  of_stream = on (frame.id == 0) refl
    where
      on : (x : Bool) → (frame.id == 0) ≡ x → (frame.id == 0) ≡ false
      on false e = e
      on true e =
          let placed : misplaced_in frame ≡ None = none_at 4 (rows_in told (noted_of frame)) rows_faultless in
          let misplaced : is_misplaced frame ≡ true =
          ap (λ k. is_misplaced (record frame { kind = k })) is
          ∙ ap (λ x. (x && frame.id == 0) || (is_of_connection kind && not (frame.id == 0)) || kind == push_promise_kind || kind == headers_kind && frame.id % 2 == 0) of
          ∙ ap (λ x. x || (is_of_connection kind && not (frame.id == 0)) || kind == push_promise_kind || kind == headers_kind && frame.id % 2 == 0) e in
          absurd (let no : Some (Connection protocol_error) ≡ None = ap (λ x. fault_if x (Connection protocol_error)) (sym misplaced) ∙ placed in cc)

  passes : fault_of (verdict (length (active_in told)) (standing_in told frame.id) kind) ≡ None
  passes =
      sym (ap (λ (o : Option Partial). fault_on_in told frame.id (judged o frame)) completes ∙ ap (λ k. fault_on_in told frame.id (judged None (record frame { kind = k }))) is ∙ ap (λ (o : Option ℕ). fault_on_in told frame.id o) is_judged)
      ∙ none_at 16 (rows_in told (noted_of frame)) rows_faultless

  -- A frame of a stream that is judged by that, without a fault, is of an active stream.
  pub active_with : is_active b.rows frame.id ≡ true
  active_with = active_at b frame.id kind of_stream no_headers (length (active_in told)) (standing_in told frame.id) (standing_tells told.drained told.stream told.opened frame.id few) passes

  -- DATA is of one that the client hasn't ended.
  pub open_with : is_content kind ≡ true → (find b.rows frame.id).ended_by_client ≡ false
  open_with content =
      let k : Kept = find b.rows frame.id in
      let there : has b.rows frame.id ≡ true = (and_parts (has b.rows frame.id) (not (is_over_in k)) active_with).0 in
      passes_open kind k.reset_by_gateway k.reset_by_client k.ended_by_client k.ended_by_gateway content
      (ap (λ (found : Standing). fault_of (verdict (length (active_in told)) found kind)) (sym (opened_standing b.drained b.rows frame.id of_stream there)) ∙ passes)

-- ---- what is discarded

abbrev is_discarded : Option Fault → Bool
is_discarded (Some Discarded) = true
is_discarded _ = false

-- nothing is on a stream that isn't over
live_not_discarded : (kind : ℕ) (us peer client gateway : Bool) → (us || peer || client && gateway) ≡ false → is_discarded (fault_of (opened_verdict (if us then ResetByUs else (if peer then ResetByPeer else state_by_ends client gateway)) kind)) ≡ false
live_not_discarded kind true peer client gateway on = cc
live_not_discarded kind false true client gateway on = cc
live_not_discarded kind false false true true on = cc
live_not_discarded kind false false true false on = by (is_content kind)
  where
    by : (b : Bool) → is_discarded (fault_of (if b then Verdict.Fails (Stream stream_closed) else Verdict.Passes)) ≡ false
    by true = refl
    by false = refl
live_not_discarded kind false false false true on = refl
live_not_discarded kind false false false false on = refl

-- rows of which none is discarded
none_of_rows : (x u d m : Option Fault) → is_discarded x ≡ false → is_discarded u ≡ false → is_discarded d ≡ false → is_discarded m ≡ false → is_discarded (or_else (first_of (unless_of_stream x ∷ u ∷ d ∷ x ∷ None ∷ [])) m) ≡ false
none_of_rows (Some (Connection code)) u d m a b c e = refl
none_of_rows (Some Discarded) u d m a b c e = cc
none_of_rows (Some (Stream code)) (Some fault) d m a b c e = b
none_of_rows (Some (Stream code)) None (Some fault) m a b c e = c
none_of_rows (Some (Stream code)) None None m a b c e = refl
none_of_rows None (Some fault) d m a b c e = b
none_of_rows None None (Some fault) m a b c e = c
none_of_rows None None None m a b c e = e

-- a stream that has a row isn't the connection
pub of_rows : (rows : List Row) (id : ℕ) → AreKept rows → has rows id ≡ true → (id == 0) ≡ false
of_rows [] id kept there = cc
of_rows (row ∷ rows) id kept there = by (row.id == id) refl (of_rows rows id kept.2)
  where
    by : (x : Bool) → (row.id == id) ≡ x → (has rows id ≡ true → (id == 0) ≡ false) → (id == 0) ≡ false
    by true is rest = ap (λ n. n == 0) (sym (eqb-true row.id id is)) ∙ kept.0.of_stream
    by false is rest = rest (sym (ap (λ x. x || has rows id) is) ∙ there)

-- What comes on an active stream isn't discarded.
pub active_not_discarded : (b : Book) (frame : Frame) → AreKept b.rows → is_active b.rows frame.id ≡ true → fault_in (summary_in b) (coming frame) ≡ Some Discarded → ⊥
active_not_discarded b frame kept active is =
    absurd (let no : true ≡ false = sym (ap is_discarded is) ∙ ap is_discarded whole ∙ none_of_rows (fault_by_standing_in s frame) (stream_update_in s frame) (stream_data_in s frame) (malformed_in outline s (coming frame)) standing (updates (is_active_in frame.id s && grants_nothing frame) (is_active_in frame.id s && grants_past (window_in s.first_size (s.stream frame.id)) frame)) (one flow_control_error (is_active_in frame.id s && is_past_room (room_in s.own (s.stream frame.id)) frame)) (one protocol_error (not (is_some outline.cause) && is_malformed (carried_in outline) (completed_in s.block frame) (noted_of frame))) in cc)
  where
    s : Summary
    s = summary_in b

    outline : Outline
    outline = (s.stream frame.id).outline

    -- the rows behind those of a header block, with this last one
    later_with : Option Fault → List (Option Fault)
    later_with last = unless_of_stream (fault_by_standing_in s frame) ∷ stream_update_in s frame ∷ stream_data_in s frame ∷ fault_by_standing_in s frame ∷ last ∷ []

    later : List (Option Fault)
    later = later_with (no_goaway_in s (noted_of frame))

    whole : fault_in s (coming frame) ≡ or_else (first_of (later_with None)) (malformed_in outline s (coming frame))
    whole =
        ap (λ (o : Option Fault). or_else o (malformed_in outline s (coming frame)))
        (skip (early_rows s (noted_of frame)) later (calm (early_rows s (noted_of frame)) later (malformed_in outline s (coming frame)) (early_fatal s (noted_of frame)) (ap is_fatal is)))
        ∙ ap (λ (last : Option Fault). or_else (first_of (later_with last)) (malformed_in outline s (coming frame))) (opens_no_last s frame)

    one : (code : ℕ) (x : Bool) → is_discarded (fault_if x (Stream code)) ≡ false
    one code true = refl
    one code false = refl

    updates : (x y : Bool) → is_discarded (first_of (fault_if x (Stream protocol_error) ∷ fault_if y (Stream flow_control_error) ∷ [])) ≡ false
    updates true y = refl
    updates false true = refl
    updates false false = refl

    parts : (has b.rows frame.id ≡ true) × (not (is_over_in (find b.rows frame.id)) ≡ true)
    parts = and_parts (has b.rows frame.id) (not (is_over_in (find b.rows frame.id))) active

    on : (x : Bool) → not x ≡ true → x ≡ false
    on false e = refl
    on true e = cc

    k : Kept
    k = find b.rows frame.id

    by_kind : (o : Option ℕ) → is_discarded (fault_on_in s frame.id o) ≡ false
    by_kind None = refl
    by_kind (Some kind) =
        ap (λ (found : Standing). is_discarded (fault_of (verdict (length (active_in s)) found kind))) (opened_standing b.drained b.rows frame.id (of_rows b.rows frame.id kept parts.0) parts.0)
        ∙ live_not_discarded kind k.reset_by_gateway k.reset_by_client k.ended_by_client k.ended_by_gateway (on (is_over_in k) parts.1)

    standing : is_discarded (fault_by_standing_in s frame) ≡ false
    standing = by_kind (judged (completed_in s.block frame) frame)
