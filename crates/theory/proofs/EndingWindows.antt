-- An error of the connection makes no stream ready: it changes no setting, grants no active stream octets, and the connection some
-- only where its window was above 0.
use Rattle.std.proofs.Common.{◌≡◌, ℕ, ◌<◌, Bool, true, false, not, ◌||◌, ◌==◌, ◌&&◌, List, [], ◌∷◌, ◌++◌, map, refl, sym, ap, ◌∙◌, subst, arith, mod-lt, if◌then◌else◌}
use Rattle.std.specs.Prelude.{Option, Some, None, is_none, length, option_map, ℤ, pos, int_lt, ◌+ℤ◌, ◌<ℤ◌, nat_le}
use Rattle.std.specs.List.{list_any}
use Rattle.std.proofs.lemmas.Bool.{eqb-true, ne_eqb, and_parts, and_right, not-true}
use Rattle.std.proofs.lemmas.Int.{ints}
use Rattle.model.specs.Frames.{Frame, data_kind, headers_kind, rst_stream_kind, window_update_kind, settings_kind, continuation_kind, is_ack, protocol_error, flow_control_error, compression_error, enhance_your_calm}
use Rattle.model.specs.Tapes.{Noted}
use Rattle.model.specs.Tapes.Note.{NoBlock}
use Rattle.model.specs.Tapes.Entry.{Came}
use Rattle.model.specs.Payloads.{number_field}
use Rattle.model.specs.SettingValues.{SettingsFault, settings_in, settings_fault, code_of_fault, initial_window_after}
use Rattle.model.specs.StreamStates.{StreamState, Standing, state_of, opened_or, unopened, is_above, verdict, opened_verdict}
use Rattle.model.specs.Limits.{most_streams, most_resets}
use Rattle.model.specs.StreamStates.StreamState.{Open, HalfClosedRemote, HalfClosedLocal, Closed, ResetByPeer, ResetByUs}
use Rattle.model.specs.StreamStates.Standing.{WholeConnection, Opened}
use Rattle.model.specs.Errors.{Fault, first_of, or_else}
use Rattle.model.specs.Errors.Fault.{Connection, Stream}
use Rattle.model.specs.FrameErrors.{fault_if}
use Rattle.model.specs.WindowsOnTape.{has_settings, increment, is_past}
use Rattle.model.specs.ErrorTable.{judged, grants, grants_nothing, grants_past, is_idle, is_undecodable, unless_of_stream, fault_of}
use Rattle.model.specs.ErrorClause.{is_fatal}
use Rattle.theory_errors.specs.Summary.{Summary}
use Rattle.theory_errors.specs.Judging.{state_in, streams_in, standing_in, active_in, window_in, completed_in, frame_rows_in, values_in, shift_in, connection_update_in, idle_in, resets_row_in, connection_data_in, fault_on_in, fault_by_standing_in, malformed_in, rows_behind_block_in, shifts_past_in, is_active_in}
use Rattle.theory_errors.specs.Owing.{fault_in}
use Rattle.theory_errors.specs.After.{is_sound, are_taken_in, grant, first_size_after, after}
use Rattle.theory_errors.proofs.Elsewhere.{none_more}
use Rattle.theory_errors.proofs.Turns.{completes_none}
use Rattle.theory_responses.specs.State.{are_open}
use Rattle.theory_responses.specs.Sight.{sight_in, windows_in}
use Rattle.model.specs.Setup.{Setup}

-- ---- rows that are no error of the connection

abbrev pub AreMild : List (Option Fault) → Type 0
AreMild [] = Unit {0}
AreMild (row ∷ rows) = (is_fatal row ≡ false) × AreMild rows

pub mild_first : (rows : List (Option Fault)) (last : Option Fault) → AreMild rows → is_fatal last ≡ false → is_fatal (or_else (first_of rows) last) ≡ false
mild_first [] last mild l = l
mild_first (None ∷ rows) last mild l = mild_first rows last mild.1 l
mild_first (Some fault ∷ rows) last mild l = mild.0

pub skip : (rows later : List (Option Fault)) → is_none (first_of rows) ≡ true → first_of (rows ++ later) ≡ first_of later
skip [] later none = refl
skip (None ∷ rows) later none = skip rows later none
skip (Some fault ∷ rows) later none = absurd (let no : false ≡ true = none in cc)

pub mild_if : (b : Bool) (code : ℕ) → is_fatal (fault_if b (Stream code)) ≡ false
mild_if true code = refl
mild_if false code = refl

pub mild_both : (a b : Bool) (c d : ℕ) → is_fatal (first_of (fault_if a (Stream c) ∷ fault_if b (Stream d) ∷ [])) ≡ false
mild_both true b c d = refl
mild_both false true c d = refl
mild_both false false c d = refl

pub mild_unless : (row : Option Fault) → is_fatal row ≡ false → is_fatal (unless_of_stream row) ≡ false
mild_unless None e = refl
mild_unless (Some (Connection code)) e = e
mild_unless (Some (Stream code)) e = refl
mild_unless (Some Fault.Discarded) e = refl

none_either : (b : Bool) (row : Option Fault) → is_fatal row ≡ false → is_fatal (if b then row else None) ≡ false
none_either true row e = e
none_either false row e = refl

mild_none : (row : Option Fault) → row ≡ None → is_fatal row ≡ false
mild_none row e = ap is_fatal e

-- ---- a frame that is sound alone

module _ (u : Summary) (noted : Noted) (plain : completed_in u.block noted.frame ≡ None → noted.note ≡ NoBlock) where
  abbrev f : Frame
  f = noted.frame

  abbrev later : List (Option Fault)
  later = values_in f ∷ shift_in u f ∷ connection_update_in u f ∷ idle_in u f ∷ resets_row_in u f ∷ connection_data_in u f ∷ rows_behind_block_in u noted

  not_fatal : is_sound u f ≡ true → AreMild later → is_fatal (fault_in u (Came noted)) ≡ false
  not_fatal sound mild =
      let last : Option Fault = malformed_in (u.stream f.id).outline u (Came noted) in
      ap (λ (x : Option Fault). is_fatal (or_else x last)) (skip (frame_rows_in u f) later sound)
      ∙ mild_first later last mild (mild_if _ protocol_error)

  -- What a frame is that is no header block and no DATA.
  record IsOther : Type 0 where
    pub no_data : (f.kind == data_kind) ≡ false
    pub no_headers : (f.kind == headers_kind) ≡ false
    pub no_continuation : (f.kind == continuation_kind) ≡ false
    pub no_reset : (f.kind == rst_stream_kind) ≡ false

  completes : IsOther → completed_in u.block f ≡ None
  completes o = completes_none u.block f o.no_headers o.no_continuation

  readable : IsOther → is_fatal (fault_if (is_undecodable noted.note) (Connection compression_error)) ≡ false
  readable o = ap (λ n. is_fatal (fault_if (is_undecodable n) (Connection compression_error))) (plain (completes o))

  no_reset_row : IsOther → is_fatal (resets_row_in u f) ≡ false
  no_reset_row o = ap (λ b. is_fatal (fault_if (b && is_active_in f.id u && nat_le most_resets u.resets) (Connection enhance_your_calm))) o.no_reset

  no_data_row : IsOther → is_fatal (connection_data_in u f) ≡ false
  no_data_row o = ap (λ b. is_fatal (fault_if (b && int_lt u.room (pos (length f.payload))) (Connection flow_control_error))) o.no_data

  -- where its standing is no error of the connection, rows behind the block are none
  behind_mild : IsOther → is_fatal (fault_by_standing_in u f) ≡ false → AreMild (rows_behind_block_in u noted)
  behind_mild o mild = (readable o, (mild_unless (fault_by_standing_in u f) mild, (mild_both _ _ protocol_error flow_control_error, (mild_if _ flow_control_error, (mild, (mild_if _ enhance_your_calm, tt))))))

  -- ---- settings that are taken

  module _ (taken : are_taken_in u f ≡ true) where
    parts : ((has_settings f && is_none (settings_fault f.payload)) ≡ true) × (not (shifts_past_in (initial_window_after u.first_size (settings_in f.payload)) u) ≡ true)
    parts = and_parts (has_settings f && is_none (settings_fault f.payload)) (not (shifts_past_in (initial_window_after u.first_size (settings_in f.payload)) u)) taken

    two : (has_settings f ≡ true) × (is_none (settings_fault f.payload) ≡ true)
    two = and_parts (has_settings f) (is_none (settings_fault f.payload)) parts.0

    kind : f.kind ≡ settings_kind
    kind = eqb-true f.kind settings_kind (and_parts (f.kind == settings_kind) (not (is_ack f)) two.0).0

    other : IsOther
    other = record { no_data = ap (λ k. k == data_kind) kind; no_headers = ap (λ k. k == headers_kind) kind; no_continuation = ap (λ k. k == continuation_kind) kind; no_reset = ap (λ k. k == rst_stream_kind) kind }

    standing_none : fault_by_standing_in u f ≡ None
    standing_none =
        ap (λ block. fault_on_in u f.id (judged block f)) (completes other)
        ∙ ap (λ k. fault_on_in u f.id (if k == data_kind || k == rst_stream_kind || k == window_update_kind then Some k else None)) kind

    values_mild : (b : Bool) (o : Option SettingsFault) → is_none o ≡ true → is_fatal (if b then option_map (λ fault. Connection (code_of_fault fault)) o else None) ≡ false
    values_mild true None e = refl
    values_mild true (Some fault) e = let clash : false ≡ true = e in cc
    values_mild false o e = refl

    pub settings_mild : AreMild later
    settings_mild = (
      values_mild (has_settings f) (settings_fault f.payload) two.1,
      (
        ap (λ b. is_fatal (fault_if b (Connection flow_control_error))) (and_right (has_settings f) _ (not-true (shifts_past_in (initial_window_after u.first_size (settings_in f.payload)) u) parts.1)),
        (
          ap (λ g. is_fatal (first_of (fault_if (f.id == 0 && (g && increment f == 0)) (Connection protocol_error) ∷ fault_if (f.id == 0 && (g && is_past (u.window +ℤ pos (increment f)))) (Connection flow_control_error) ∷ []))) (ap (λ k. k == window_update_kind) kind)
              ∙ ap (λ b. is_fatal (first_of (fault_if b (Connection protocol_error) ∷ fault_if b (Connection flow_control_error) ∷ []))) (and_right (f.id == 0) false refl),
          (none_either _ (fault_by_standing_in u f) (mild_none _ standing_none), (no_reset_row other, (no_data_row other, behind_mild other (mild_none _ standing_none)))),
        ),
      ),
    )

  -- ---- WINDOW_UPDATE

  module _ (kind : f.kind ≡ window_update_kind) where
    update : IsOther
    update = record { no_data = ap (λ k. k == data_kind) kind; no_headers = ap (λ k. k == headers_kind) kind; no_continuation = ap (λ k. k == continuation_kind) kind; no_reset = ap (λ k. k == rst_stream_kind) kind }

    no_settings : has_settings f ≡ false
    no_settings = ap (λ k. k == settings_kind && not (is_ack f)) kind

    judged_so : judged (completed_in u.block f) f ≡ Some window_update_kind
    judged_so =
        ap (λ block. judged block f) (completes update)
        ∙ ap (λ k. if k == data_kind || k == rst_stream_kind || k == window_update_kind then Some k else None) kind

    opened_mild : (state : StreamState) → is_fatal (fault_of (opened_verdict state window_update_kind)) ≡ false
    opened_mild Open = refl
    opened_mild HalfClosedRemote = refl
    opened_mild HalfClosedLocal = refl
    opened_mild Closed = refl
    opened_mild ResetByPeer = refl
    opened_mild ResetByUs = refl

    -- by the standing of its id
    standing_mild : (found : Standing) → standing_in u f.id ≡ found → is_idle found ≡ false → is_fatal (fault_of (verdict (length (active_in u)) found window_update_kind)) ≡ false → is_fatal (connection_update_in u f) ≡ false → AreMild later
    standing_mild found is idle mild first =
        let standing : is_fatal (fault_by_standing_in u f) ≡ false =
        ap (λ (k : Option ℕ). is_fatal (fault_on_in u f.id k)) judged_so ∙ ap (λ (x : Standing). is_fatal (fault_of (verdict (length (active_in u)) x window_update_kind))) is ∙ mild in (
          ap (λ b. is_fatal (if b then option_map (λ fault. Connection (code_of_fault fault)) (settings_fault f.payload) else None)) no_settings,
          (
            ap (λ b. is_fatal (fault_if (b && shifts_past_in (initial_window_after u.first_size (settings_in f.payload)) u) (Connection flow_control_error))) no_settings,
            (first, (none_either _ (fault_by_standing_in u f) standing, (no_reset_row update, (no_data_row update, behind_mild update standing)))),
          ),
        )

    looked : (ids : List ℕ) (id : ℕ) → list_any (λ other. other == id) ids ≡ true → (state : StreamState) × (state_of id (map (λ other. record { id = other; state = state_in (u.stream other) }) ids) ≡ Some state)
    looked [] id there = let clash : false ≡ true = there in cc
    looked (x ∷ ids) id there = by (x == id) there (looked ids id)
      where
        by : (b : Bool) → (b || list_any (λ other. other == id) ids) ≡ true → (list_any (λ other. other == id) ids ≡ true → (state : StreamState) × (state_of id (map (λ other. record { id = other; state = state_in (u.stream other) }) ids) ≡ Some state))
            → (state : StreamState) × ((if b then Some (state_in (u.stream x)) else state_of id (map (λ other. record { id = other; state = state_in (u.stream other) }) ids)) ≡ Some state)
        by true e more = (state_in (u.stream x), refl)
        by false e more = more e

    -- on a stream that was opened
    on_stream : (f.id == 0) ≡ false → list_any (λ other. other == f.id) u.opened ≡ true → AreMild later
    on_stream apart there =
        let found = looked u.opened f.id there in
        standing_mild (Opened found.0)
        (ap (λ b. if b then WholeConnection else opened_or (state_of f.id (streams_in u)) (unopened (is_above f.id (streams_in u)) (u.drained || length (streams_in u) == most_streams) f.id)) apart
        ∙ ap (λ (o : Option StreamState). opened_or o (unopened (is_above f.id (streams_in u)) (u.drained || length (streams_in u) == most_streams) f.id)) found.1)
        refl (opened_mild found.0)
        (ap (λ b. is_fatal (first_of (fault_if (b && grants_nothing f) (Connection protocol_error) ∷ fault_if (b && grants_past u.window f) (Connection flow_control_error) ∷ []))) apart)

    -- on the connection
    on_connection : (f.id == 0) ≡ true → (increment f == 0) ≡ false → is_past (u.window +ℤ pos (increment f)) ≡ false → AreMild later
    on_connection whole some within =
        standing_mild WholeConnection
        (ap (λ b. if b then WholeConnection else opened_or (state_of f.id (streams_in u)) (unopened (is_above f.id (streams_in u)) (u.drained || length (streams_in u) == most_streams) f.id)) whole)
        refl refl
        (ap (λ b. is_fatal (first_of (fault_if (f.id == 0 && (grants f && b)) (Connection protocol_error) ∷ fault_if (f.id == 0 && grants_past u.window f) (Connection flow_control_error) ∷ []))) some
        ∙ ap (λ b. is_fatal (first_of (fault_if (f.id == 0 && (grants f && false)) (Connection protocol_error) ∷ fault_if (f.id == 0 && (grants f && b)) (Connection flow_control_error) ∷ []))) within
        ∙ ap (λ b. is_fatal (first_of (fault_if (f.id == 0 && b) (Connection protocol_error) ∷ fault_if (f.id == 0 && b) (Connection flow_control_error) ∷ []))) (and_right (grants f) false refl)
        ∙ ap (λ b. is_fatal (first_of (fault_if b (Connection protocol_error) ∷ fault_if b (Connection flow_control_error) ∷ []))) (and_right (f.id == 0) false refl))

  -- ---- windows

  module _ (fatal : is_fatal (fault_in u (Came noted)) ≡ true) where
    clash : is_sound u f ≡ true → AreMild later → ⊥
    clash sound mild = let no : true ≡ false = sym fatal ∙ not_fatal sound mild in absurd (let x : true ≡ false = no in cc)

    -- no setting is changed
    pub same_size : first_size_after u (Came noted) ≡ u.first_size
    same_size = by (is_sound u f) refl (are_taken_in u f) refl
      where
        by : (a : Bool) → is_sound u f ≡ a → (b : Bool) → are_taken_in u f ≡ b → (if is_sound u f && are_taken_in u f then initial_window_after u.first_size (settings_in f.payload) else u.first_size) ≡ u.first_size
        by true sound true taken = absurd (clash sound (settings_mild taken))
        by true sound false taken = ap (λ b. if b then initial_window_after u.first_size (settings_in f.payload) else u.first_size) (and_right (is_sound u f) _ taken)
        by false sound b taken = ap (λ a. if a && are_taken_in u f then initial_window_after u.first_size (settings_in f.payload) else u.first_size) sound

    -- nothing is granted an active stream
    pub same_own : (stream : ℕ) → 0 < stream → list_any (λ other. other == stream) u.opened ≡ true → (if is_sound u f then (u.stream stream).balance +ℤ pos (grant stream f) else (u.stream stream).balance) ≡ (u.stream stream).balance
    same_own stream counted there = by (is_sound u f) refl (f.kind == window_update_kind) refl (f.id == stream) refl
      where
        old : ℤ
        old = (u.stream stream).balance

        by : (a : Bool) → is_sound u f ≡ a → (b : Bool) → (f.kind == window_update_kind) ≡ b → (c : Bool) → (f.id == stream) ≡ c → (if is_sound u f then old +ℤ pos (grant stream f) else old) ≡ old
        by false sound b kind c same = ap (λ x. if x then old +ℤ pos (grant stream f) else old) sound
        by true sound false kind c same = none_more (is_sound u f) old (grant stream f) (ap (λ x. if x && f.id == stream then increment f else 0) kind)
        by true sound true kind false same = none_more (is_sound u f) old (grant stream f) (ap (λ x. if x then increment f else 0) (and_right (f.kind == window_update_kind) _ same))
        by true sound true kind true same =
            let is : f.id ≡ stream = eqb-true f.id stream same in
            absurd (clash sound (on_stream (eqb-true f.kind window_update_kind kind) (ne_eqb f.id 0 (λ zero. omega (arith, zero, is, counted))) (subst (λ n. list_any (λ other. other == n) u.opened ≡ true) (sym is) there)))

    above : (z : ℤ) → pos 0 <ℤ z → int_lt (pos 0) z ≡ true
    above z lt = by (int_lt (pos 0) z) refl
      where
        by : (b : Bool) → int_lt (pos 0) z ≡ b → b ≡ true
        by true e = refl
        by false e = absurd (omega (arith, ints, e, lt))

    -- the connection's window is above 0 behind the frame just where it was before
    pub same_shared : int_lt (pos 0) (if is_sound u f then u.window +ℤ pos (grant 0 f) else u.window) ≡ int_lt (pos 0) u.window
    same_shared = by (is_sound u f) refl (f.kind == window_update_kind && f.id == 0) refl (increment f == 0) refl (is_past (u.window +ℤ pos (increment f))) refl
      where
        by : (a : Bool) → is_sound u f ≡ a → (b : Bool) → (f.kind == window_update_kind && f.id == 0) ≡ b → (c : Bool) → (increment f == 0) ≡ c → (d : Bool) → is_past (u.window +ℤ pos (increment f)) ≡ d
            → int_lt (pos 0) (if is_sound u f then u.window +ℤ pos (grant 0 f) else u.window) ≡ int_lt (pos 0) u.window
        by false sound b grants c none d past = ap (λ x. int_lt (pos 0) (if x then u.window +ℤ pos (grant 0 f) else u.window)) sound
        by true sound false grants c none d past = ap (int_lt (pos 0)) (none_more (is_sound u f) u.window (grant 0 f) (ap (λ x. if x then increment f else 0) grants))
        by true sound true grants true none d past = ap (int_lt (pos 0)) (none_more (is_sound u f) u.window (grant 0 f) (ap (λ x. if x then increment f else 0) grants ∙ eqb-true (increment f) 0 none))
        by true sound true grants false none false past =
            let both = and_parts (f.kind == window_update_kind) (f.id == 0) grants in
            absurd (clash sound (on_connection (eqb-true f.kind window_update_kind both.0) both.1 none past))
        by true sound true grants false none true past =
            let small : increment f < 2147483648 = mod-lt (number_field f.payload) (omega arith) in
            let before : pos 0 <ℤ u.window = omega (arith, ints, past, small) in
            ap (λ x. int_lt (pos 0) (if x then u.window +ℤ pos (grant 0 f) else u.window)) sound
            ∙ ap (λ x. int_lt (pos 0) (u.window +ℤ pos (if x then increment f else 0))) grants
            ∙ above (u.window +ℤ pos (increment f)) (omega (arith, ints, before))
            ∙ sym (above u.window before)

    -- So the same streams have open windows behind it, of those that were opened.
    pub open_stays : (setup : Setup) (stream : ℕ) → 0 < stream → list_any (λ other. other == stream) u.opened ≡ true → are_open (windows_in (sight_in (after setup false u (Came noted)))) stream ≡ are_open (windows_in (sight_in u)) stream
    open_stays setup stream counted there =
        ap (λ n. int_lt (pos 0) (pos n +ℤ (if is_sound u f then (u.stream stream).balance +ℤ pos (grant stream f) else (u.stream stream).balance)) && int_lt (pos 0) (if is_sound u f then u.window +ℤ pos (grant 0 f) else u.window)) same_size
        ∙ ap (λ z. int_lt (pos 0) (pos u.first_size +ℤ z) && int_lt (pos 0) (if is_sound u f then u.window +ℤ pos (grant 0 f) else u.window)) (same_own stream counted there)
        ∙ ap (λ b. int_lt (pos 0) (window_in u.first_size (u.stream stream)) && b) same_shared
