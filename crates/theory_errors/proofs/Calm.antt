-- A frame on a stream that may be opened yet, which doesn't open it and is no error of the connection, brings it nothing.
use Rattle.std.proofs.Common.{◌≡◌, ℕ, ◌%◌, Bool, true, false, not, ◌&&◌, ◌||◌, ◌==◌, nat_lt, if◌then◌else◌, List, [], ◌∷◌, ◌++◌, length, Option, Some, None, refl, sym, ◌∙◌, ap, subst, arith}
use Rattle.std.proofs.lemmas.Bool.{and_parts, and_right, or_parts, eqb-true, ltb-true, ne_eqb}
use Rattle.std.specs.Prelude.{is_some, option_map, pos, ◌+ℤ◌, int_lt}
use Rattle.std.specs.List.{list_any, list_all}
use Rattle.model.specs.Frames.{Frame, data_kind, headers_kind, rst_stream_kind, settings_kind, window_update_kind, is_ack, protocol_error, flow_control_error, compression_error, enhance_your_calm, refused_stream}
use Rattle.model.specs.Tapes.{Note, Noted}
use Rattle.model.specs.Tapes.Note.{NoBlock, Fields, Undecodable, Unread}
use Rattle.model.specs.Tapes.Entry.{Came}
use Rattle.model.specs.Decoding.{Partial}
use Rattle.model.specs.Payloads.{PayloadFault, payload_fault, code_of_payload}
use Rattle.model.specs.SettingValues.{SettingsFault, settings_fault, code_of_fault}
use Rattle.model.specs.StreamStates.{StreamState, Standing, state_of, is_above, unopened, opened_or, verdict}
use Rattle.model.specs.Limits.{most_active, most_streams}
use Rattle.model.specs.StreamStates.Standing.{WholeConnection, Opened, Idle, ServerIdle, Skipped, Beyond}
use Rattle.model.specs.StreamStates.Verdict.{Opens, Fails}
use Rattle.model.specs.Errors.{Fault, row_first_frame, first_of, or_else}
use Rattle.model.specs.Errors.Fault.{Connection, Stream, Discarded}
use Rattle.model.specs.FrameErrors.{fault_if}
use Rattle.model.specs.WindowsOnTape.{has_settings, increment, is_past}
use Rattle.model.specs.Lifetimes.{may_open, opens_by}
use Rattle.model.specs.ErrorTable.{fault_of, judged, grants, grants_nothing, grants_past, is_idle, is_headers, is_undecodable, unless_of_stream}
use Rattle.model.specs.ErrorClause.{is_fatal}
use Rattle.model.proofs.OpenedLaws.{not_opened}
use Rattle.model.proofs.OwedSteps.{neither_full}
use Rattle.theory_errors.specs.Summary.{Outline, Stream as Kept, Summary}
use Rattle.theory_errors.specs.Judging.{active_in, is_active_in, standing_in, window_in, completed_in, state_in, fault_on_in, fault_by_standing_in, stream_update_in, stream_data_in, malformed_in, are_last, is_crowded_in, no_goaway_in, rows_before_block_in, rows_behind_block_in, fault_for, room_in}
use Rattle.theory_errors.specs.Owing.{fault_in}
use Rattle.theory_errors.specs.Book.{is_told}
use Rattle.theory_errors.proofs.Standings.{states}
use Rattle.theory_errors.proofs.Wanted.{above_told, count_told, bears}
use Rattle.theory_errors.proofs.Seen.{none_at, idle_frame}
use Rattle.theory_errors.proofs.RowsKept.{completed_own}

-- ---- rows that are errors of the connection

abbrev pub IsFatalRow : Option Fault → Type 0
IsFatalRow None = Unit {0}
IsFatalRow (Some (Connection code)) = Unit {0}
IsFatalRow (Some (Stream code)) = ⊥
IsFatalRow (Some Discarded) = ⊥

abbrev pub AreFatal : List (Option Fault) → Type 0
AreFatal [] = Unit {0}
AreFatal (row ∷ rows) = IsFatalRow row × AreFatal rows

-- where the entry is no error of the connection, none of such rows is a fault
pub calm : (rows later : List (Option Fault)) (last : Option Fault) → AreFatal rows → is_fatal (or_else (first_of (rows ++ later)) last) ≡ false → first_of rows ≡ None
calm [] later last fatal none = refl
calm (None ∷ rows) later last fatal none = calm rows later last fatal.1 none
calm (Some (Connection code) ∷ rows) later last fatal none = absurd (let no : true ≡ false = none in cc)
calm (Some (Stream code) ∷ rows) later last fatal none = absurd fatal.0
calm (Some Discarded ∷ rows) later last fatal none = absurd fatal.0

fatal_if : (b : Bool) (code : ℕ) → IsFatalRow (fault_if b (Connection code))
fatal_if true code = tt
fatal_if false code = tt

fatal_first : (come : Bool) (frame : Frame) → IsFatalRow (row_first_frame come frame)
fatal_first true frame = tt
fatal_first false frame = cases (frame.kind == settings_kind && not (is_ack frame))
  where
    cases : (fine : Bool) → IsFatalRow (if fine then None else Some (Connection protocol_error))
    cases true = tt
    cases false = tt

fatal_payload : (o : Option PayloadFault) → IsFatalRow (option_map (λ fault. Connection (code_of_payload fault)) o)
fatal_payload None = tt
fatal_payload (Some fault) = tt

fatal_values : (b : Bool) (o : Option SettingsFault) → IsFatalRow (if b then option_map (λ fault. Connection (code_of_fault fault)) o else None)
fatal_values true None = tt
fatal_values true (Some fault) = tt
fatal_values false o = tt

fatal_update : (a b : Bool) → IsFatalRow (first_of (fault_if a (Connection protocol_error) ∷ fault_if b (Connection flow_control_error) ∷ []))
fatal_update true b = tt
fatal_update false true = tt
fatal_update false false = tt

-- what comes of a type by a standing
abbrev pub of_kind : ℕ → Standing → Option ℕ → Option Fault
of_kind n found None = None
of_kind n found (Some kind) = fault_of (verdict n found kind)

-- anything but HEADERS on an idle stream
fatal_on_idle : (n kind : ℕ) (b : Bool) → IsFatalRow (if not b then fault_of (if b then (if nat_lt n most_active then Opens else Fails (Stream refused_stream)) else Fails (Connection protocol_error)) else None)
fatal_on_idle n kind true = tt
fatal_on_idle n kind false = tt

fatal_idle : (n : ℕ) (found : Standing) (kind : Option ℕ) → IsFatalRow (if is_idle found && not (is_headers kind) then of_kind n found kind else None)
fatal_idle n Idle None = tt
fatal_idle n Idle (Some kind) = fatal_on_idle n kind (kind == headers_kind)
fatal_idle n ServerIdle None = tt
fatal_idle n ServerIdle (Some kind) = cases (kind == headers_kind)
  where
    cases : (b : Bool) → IsFatalRow (if not b then Some (Connection protocol_error) else None)
    cases true = tt
    cases false = tt
fatal_idle n WholeConnection kind = tt
fatal_idle n (Opened state) kind = tt
fatal_idle n Skipped kind = tt
fatal_idle n Beyond kind = tt

-- Each row that is judged before a header block is read is such an error.
before_fatal : (s : Summary) (frame : Frame) → AreFatal (rows_before_block_in s frame)
before_fatal s frame = (
  fatal_first s.has_come frame,
  (
    tt,
    (
      fatal_if _ protocol_error,
      (
        fatal_if _ enhance_your_calm,
        (
          fatal_if _ protocol_error,
          (
            fatal_payload (payload_fault frame),
            (
              fatal_values (has_settings frame) (settings_fault frame.payload),
              (
                fatal_if _ flow_control_error,
                (
                  fatal_update (frame.id == 0 && grants_nothing frame) (frame.id == 0 && grants_past s.window frame),
                  (
                    fatal_idle (length (active_in s)) (standing_in s frame.id) (judged (completed_in s.block frame) frame),
                    (fatal_if _ enhance_your_calm, (fatal_if _ flow_control_error, tt)),
                  ),
                ),
              ),
            ),
          ),
        ),
      ),
    ),
  ),
)

-- where one of such rows is a fault, the entry is an error of the connection
first_fatal : (rows more : List (Option Fault)) (last : Option Fault) → AreFatal rows → is_some (first_of rows) ≡ true → is_fatal (or_else (first_of (rows ++ more)) last) ≡ true
first_fatal [] more last fatal is = absurd (let no : false ≡ true = is in cc)
first_fatal (None ∷ rows) more last fatal is = first_fatal rows more last fatal.1 is
first_fatal (Some (Connection code) ∷ rows) more last fatal is = refl
first_fatal (Some (Stream code) ∷ rows) more last fatal is = absurd fatal.0
first_fatal (Some Discarded ∷ rows) more last fatal is = absurd fatal.0

-- An error before a header block is read is one of the connection.
pub fatal_before_block : (s : Summary) (noted : Noted) → is_some (first_of (rows_before_block_in s noted.frame)) ≡ true → is_fatal (fault_in s (Came noted)) ≡ true
fatal_before_block s noted is =
    first_fatal (rows_before_block_in s noted.frame) (rows_behind_block_in s noted) (malformed_in (s.stream noted.frame.id).outline s (Came noted)) (before_fatal s noted.frame) is

-- rows and rows behind them
both_fatal : (rows more : List (Option Fault)) → AreFatal rows → AreFatal more → AreFatal (rows ++ more)
both_fatal [] more fatal later = later
both_fatal (row ∷ rows) more fatal later = (fatal.0, both_fatal rows more fatal.1 later)

-- these rows, and that of header blocks that can't be read
abbrev pub early_rows : Summary → Noted → List (Option Fault)
early_rows s noted = rows_before_block_in s noted.frame ++ fault_if (is_undecodable noted.note) (Connection compression_error) ∷ []

pub early_fatal : (s : Summary) (noted : Noted) → AreFatal (early_rows s noted)
early_fatal s noted =
    both_fatal (rows_before_block_in s noted.frame) (fault_if (is_undecodable noted.note) (Connection compression_error) ∷ []) (before_fatal s noted.frame) (fatal_if _ compression_error, tt)

-- ---- the standing of a stream that may be opened

looked_none : (f : ℕ → Kept) (ids : List ℕ) (id : ℕ) → list_any (λ other. other == id) ids ≡ false → state_of id (states f ids) ≡ None
looked_none f [] id none = refl
looked_none f (other ∷ ids) id none =
    let parts = or_parts (other == id) (list_any (λ o. o == id) ids) none in
    ap (λ b. if b then Some (state_in (f other)) else state_of id (states f ids)) parts.0 ∙ looked_none f ids id parts.1

not_so : (b : Bool) → not b ≡ true → b ≡ false
not_so true is = let no : false ≡ true = is in cc
not_so false is = refl

pub idle_standing : (s : Summary) (id : ℕ) → may_open s.drained s.opened id ≡ true → standing_in s id ≡ Idle
idle_standing s id may =
    let parts = and_parts (id % 2 == 1 && list_all (λ other. nat_lt other id) s.opened) (not s.drained && nat_lt (length s.opened) most_streams) may in
    let both = and_parts (id % 2 == 1) (list_all (λ other. nat_lt other id) s.opened) parts.0 in
    let odd = eqb-true (id % 2) 1 both.0 in
    let last = and_parts (not s.drained) (nat_lt (length s.opened) most_streams) parts.1 in
    let room = ltb-true (length s.opened) most_streams last.1 in
    let undrained : s.drained ≡ false = not_so s.drained last.0 in
    let above : is_above id (states s.stream s.opened) ≡ true = above_told s.stream s.opened id ∙ both.1 in
    let not_full : (length (states s.stream s.opened) == most_streams) ≡ false = ap (λ n. n == most_streams) (count_told s.stream s.opened) ∙ ne_eqb (length s.opened) most_streams (λ same. omega (arith, same, room)) in
    let not_zero : (id == 0) ≡ false = ne_eqb id 0 (λ same. let other : 0 % 2 ≡ 1 = subst (λ n. n % 2 ≡ 1) same odd in omega (arith, other)) in
    let not_even : (id % 2 == 0) ≡ false = ne_eqb (id % 2) 0 (λ same. omega (arith, same, odd)) in
    ap (λ b. if b then WholeConnection else opened_or (state_of id (states s.stream s.opened)) (unopened (is_above id (states s.stream s.opened)) (s.drained || length (states s.stream s.opened) == most_streams) id)) not_zero
    ∙ ap (λ (o : Option StreamState). opened_or o (unopened (is_above id (states s.stream s.opened)) (s.drained || length (states s.stream s.opened) == most_streams) id)) (looked_none s.stream s.opened id (not_opened s.drained s.opened id may))
    ∙ ap (λ b. unopened b (s.drained || length (states s.stream s.opened) == most_streams) id) above
    ∙ ap (λ d. unopened true (d || length (states s.stream s.opened) == most_streams) id) undrained
    ∙ ap (λ b. unopened true b id) not_full
    ∙ ap (λ b. if b then ServerIdle else Idle) not_even

-- ---- what such a frame is

-- the frame is no DATA, no reset and no grant, and completes no header block; it has no fault
pub record IsIdleFrame (outline : Outline) (s : Summary) (noted : Noted) : Type 0 where
  pub no_block : completed_in s.block noted.frame ≡ None
  pub no_data : (noted.frame.kind == data_kind) ≡ false
  pub no_reset : (noted.frame.kind == rst_stream_kind) ≡ false
  pub no_grant : grants noted.frame ≡ false
  pub no_fault : fault_for outline s (Came noted) ≡ None

-- rows of which none is a fault may be left out
pub skip : (rows later : List (Option Fault)) → first_of rows ≡ None → first_of (rows ++ later) ≡ first_of later
skip [] later none = refl
skip (None ∷ rows) later none = skip rows later none
skip (Some fault ∷ rows) later none = absurd (cc)

-- a frame other than HEADERS that is judged on an idle stream is an error
judged_idle : (n kind : ℕ) (b : Bool) → b ≡ false → (if not b then fault_of (if b then (if nat_lt n most_active then Opens else Fails (Stream refused_stream)) else Fails (Connection protocol_error)) else None) ≡ None → ⊥
judged_idle n kind true is none = absurd (let no : true ≡ false = is in cc)
judged_idle n kind false is none = absurd (cc)

module _ (s : Summary) (noted : Noted) (outline : Outline) (may : may_open s.drained s.opened noted.frame.id ≡ true) (closed : opens_by s.drained s.opened (completed_in s.block noted.frame) noted.note ≡ false) (on : is_fatal (fault_for outline s (Came noted)) ≡ false)
    (told : is_some (completed_in s.block noted.frame) ≡ true → is_told noted.note ≡ true) where
  abbrev later_rows : List (Option Fault)
  later_rows =
      unless_of_stream (fault_by_standing_in s noted.frame)
      ∷ stream_update_in s noted.frame
      ∷ stream_data_in s noted.frame
      ∷ fault_by_standing_in s noted.frame
      ∷ no_goaway_in s noted
      ∷ []

  early_none : first_of (early_rows s noted) ≡ None
  early_none = calm (early_rows s noted) later_rows (malformed_in outline s (Came noted)) (early_fatal s noted) on

  -- it completes no header block
  no_block_here : completed_in s.block noted.frame ≡ None
  no_block_here = cases (completed_in s.block noted.frame) refl noted.note refl
    where
      cases : (block : Option Partial) → completed_in s.block noted.frame ≡ block → (n : Note) → noted.note ≡ n → completed_in s.block noted.frame ≡ None
      cases None is n note = is
      cases (Some block) is (Fields fields) note =
          let is_open : may_open s.drained s.opened block.id ≡ true = ap (λ (id : ℕ). may_open s.drained s.opened id) (completed_own s.block noted.frame block is) ∙ may in
          let isnt : may_open s.drained s.opened block.id ≡ false = sym (ap (λ (b : Option Partial). opens_by s.drained s.opened b noted.note) is ∙ ap (λ (n : Note). opens_by s.drained s.opened (Some block) n) note) ∙ closed in
          absurd (let no : true ≡ false = sym is_open ∙ isnt in cc)
      cases (Some block) is Undecodable note =
          let wrong : Some (Connection compression_error) ≡ None = sym (ap (λ (n : Note). fault_if (is_undecodable n) (Connection compression_error)) note) ∙ none_at 12 (early_rows s noted) early_none in
          absurd (cc)
      cases (Some block) is NoBlock note = absurd (let no : false ≡ true = sym (ap is_told note) ∙ told (ap is_some is) in cc)
      cases (Some block) is Unread note = absurd (let no : false ≡ true = sym (ap is_told note) ∙ told (ap is_some is) in cc)

  -- it is none of the types that are judged by their stream
  abbrev is_judged : Bool
  is_judged = noted.frame.kind == data_kind || noted.frame.kind == rst_stream_kind || grants noted.frame

  idle_row : (if not (is_headers (judged None noted.frame)) then of_kind (length (active_in s)) Idle (judged None noted.frame) else None) ≡ None
  idle_row =
      let n : ℕ = length (active_in s) in
      sym (
      ap (λ (x : Standing). if is_idle x && not (is_headers (judged (completed_in s.block noted.frame) noted.frame)) then of_kind n x (judged (completed_in s.block noted.frame) noted.frame) else None) (idle_standing s noted.frame.id may)
      ∙ ap (λ (b : Option Partial). if not (is_headers (judged b noted.frame)) then of_kind n Idle (judged b noted.frame) else None) no_block_here)
      ∙ none_at 9 (early_rows s noted) early_none

  not_judged : is_judged ≡ false
  not_judged = cases is_judged refl idle_row
    where
      cases : (b : Bool) → is_judged ≡ b → (if not (is_headers (if b then Some noted.frame.kind else None)) then of_kind (length (active_in s)) Idle (if b then Some noted.frame.kind else None) else None) ≡ None → is_judged ≡ false
      cases false is none = is
      cases true is none =
          let no_headers : (noted.frame.kind == headers_kind) ≡ false = ne_eqb noted.frame.kind headers_kind (λ same. let no : true ≡ false = sym is ∙ ap (λ k. k == data_kind || k == rst_stream_kind || k == window_update_kind) same in absurd (let x : true ≡ false = no in cc)) in
          absurd (judged_idle (length (active_in s)) noted.frame.kind (noted.frame.kind == headers_kind) no_headers none)

  pub idle_frame_is : IsIdleFrame outline s noted
  idle_frame_is =
      let last = or_parts (noted.frame.kind == data_kind || noted.frame.kind == rst_stream_kind) (grants noted.frame) not_judged in
      let both = or_parts (noted.frame.kind == data_kind) (noted.frame.kind == rst_stream_kind) last.0 in
      let active : Bool = is_active_in noted.frame.id s in
      let standing_none : fault_by_standing_in s noted.frame ≡ None =
      ap (λ (b : Option Partial). fault_on_in s noted.frame.id (judged b noted.frame)) no_block_here
      ∙ ap (λ b. fault_on_in s noted.frame.id (if b then Some noted.frame.kind else None)) not_judged in
      let update_none : stream_update_in s noted.frame ≡ None =
      ap (λ g. first_of (fault_if (active && (g && increment noted.frame == 0)) (Stream protocol_error) ∷ fault_if (active && (g && is_past (window_in s.first_size (s.stream noted.frame.id) +ℤ pos (increment noted.frame)))) (Stream flow_control_error) ∷ [])) last.1
      ∙ ap (λ b. first_of (fault_if b (Stream protocol_error) ∷ fault_if b (Stream flow_control_error) ∷ [])) (and_right active false refl) in
      let data_none : stream_data_in s noted.frame ≡ None =
      ap (λ d. fault_if (active && (d && int_lt (room_in s.own (s.stream noted.frame.id)) (pos (length noted.frame.payload)))) (Stream flow_control_error)) both.0
      ∙ ap (λ b. fault_if b (Stream flow_control_error)) (and_right active false refl) in
      let last_none : no_goaway_in s noted ≡ None =
      ap (λ b. fault_if (are_last s s.drained (if b then noted.frame.id ∷ s.opened else s.opened) && is_crowded_in s) (Stream enhance_your_calm)) closed
      ∙ ap (λ b. fault_if (b && is_crowded_in s) (Stream enhance_your_calm)) (neither_full s.drained (length s.opened) most_streams) in
      let bears_none : bears s noted.frame ≡ false =
      ap (λ (b : Option Partial). is_some b || noted.frame.kind == data_kind) no_block_here ∙ both.0 in
      record {
        no_block = no_block_here;
        no_data = both.0;
        no_reset = both.1;
        no_grant = last.1;
        no_fault =
            ap (λ x. or_else x (malformed_in outline s (Came noted))) (skip (early_rows s noted) later_rows early_none)
            ∙ ap (λ x. or_else (first_of (unless_of_stream x ∷ stream_update_in s noted.frame ∷ stream_data_in s noted.frame ∷ x ∷ no_goaway_in s noted ∷ [])) (malformed_in outline s (Came noted))) standing_none
            ∙ ap (λ x. or_else (first_of (x ∷ stream_data_in s noted.frame ∷ None ∷ no_goaway_in s noted ∷ [])) (malformed_in outline s (Came noted))) update_none
            ∙ ap (λ x. or_else (first_of (x ∷ None ∷ no_goaway_in s noted ∷ [])) (malformed_in outline s (Came noted))) data_none
            ∙ ap (λ x. or_else (first_of (None ∷ x ∷ [])) (malformed_in outline s (Came noted))) last_none
            ∙ idle_frame outline s noted bears_none;
      }
