-- DATA: its fault (RFC 9113, sections 5.1, 6.1, 6.9.1 and 8.1.1).
use Rattle.std.proofs.Common.{◌≡◌, ℕ, Bool, true, false, not, ◌&&◌, ◌||◌, ◌==◌, ◌%◌, if◌then◌else◌, List, [], ◌∷◌, length, Option, Some, None, refl, sym, ◌∙◌, ap, inl, inr}
use Rattle.std.proofs.lemmas.Bool.{and_right, and_parts, cases_Bool}
use Rattle.std.specs.Prelude.{pos, ◌+ℤ◌, int_lt}
use Rattle.model.specs.Frames.{Frame, ends_stream, content, protocol_error, flow_control_error, stream_closed}
use Rattle.model.specs.Errors.{Fault, first_of, or_else}
use Rattle.model.specs.Errors.Fault.{Connection, Stream, Discarded}
use Rattle.model.specs.FrameErrors.{fault_if}
use Rattle.model.specs.StreamStates.{Standing, verdict, opened_verdict, is_above}
use Rattle.model.specs.Limits.{most_streams}
use Rattle.model.specs.StreamStates.StreamState.{ResetByPeer, ResetByUs}
use Rattle.model.specs.StreamStates.Standing.{WholeConnection, Opened, Idle, ServerIdle, Skipped, Beyond}
use Rattle.model.specs.Lifetimes.{state_by_ends}
use Rattle.model.specs.WindowsOnTape.{increment, is_past}
use Rattle.model.specs.ErrorTable.{fault_of, unless_of_stream, is_idle}
use Rattle.theory_errors.specs.Summary.{Summary, Stream as Kept}
use Rattle.theory_errors.specs.Judging.{frame_rows_in, is_over_in, no_goaway_in, room_in}
use Rattle.theory_errors.specs.Owing.{fault_in}
use Rattle.theory_errors.specs.Rows.{Row, find}
use Rattle.theory_errors.specs.Book.{Book, summary_in}
use Rattle.theory_errors.specs.Quiet.{coming, noted_of}
use Rattle.streams.specs.Courses.{is_malformed_with}
use Rattle.streams.specs.Asked as asked
use Rattle.streams.specs.Asked.{has, standing, active_in, opened_in, is_active}
use Rattle.connection_state.specs.Judgement.{is_of_stream, data_frame}
use Rattle.connection_state.proofs.Rows.{later_rows, fault_later, opens_no_last}
use Rattle.connection_state.proofs.Standings.{opened_standing, other_standing}

-- ---- what a standing says of DATA

-- on an idle stream it is an error of the connection
idle_data : (active : ℕ) (st : Standing) → is_idle st ≡ true → (code : ℕ) × (fault_of (verdict active st 0) ≡ Some (Connection code))
idle_data active Idle is = (_, refl)
idle_data active ServerIdle is = (_, refl)
idle_data active WholeConnection is = absurd (let no : false ≡ true = is in cc)
idle_data active (Opened state) is = absurd (let no : false ≡ true = is in cc)
idle_data active Skipped is = absurd (let no : false ≡ true = is in cc)
idle_data active Beyond is = absurd (let no : false ≡ true = is in cc)

-- one that isn't an error of the stream
abbrev pub IsHard : Option Fault → Type 0
IsHard o = (f : Fault) × (o ≡ Some f) × (is_of_stream (Some f) ≡ false)

over_hard : (a b c d : Bool) → (d || c || a && b) ≡ true → IsHard (fault_of (opened_verdict (if d then ResetByUs else (if c then ResetByPeer else state_by_ends a b)) 0))
over_hard a b c true over = (_, refl, refl)
over_hard a b true false over = (_, refl, refl)
over_hard true true false false over = (_, refl, refl)
over_hard true false false false over = absurd (let no : false ≡ true = over in cc)
over_hard false true false false over = absurd (let no : false ≡ true = over in cc)
over_hard false false false false over = absurd (let no : false ≡ true = over in cc)

unopened_hard : (active : ℕ) (above full even : Bool) → IsHard (fault_of (verdict active (if above && full then Standing.Beyond else (if even then Standing.ServerIdle else (if above then Standing.Idle else Standing.Skipped))) 0))
unopened_hard active true true even = (_, refl, refl)
unopened_hard active true false true = (_, refl, refl)
unopened_hard active true false false = (_, refl, refl)
unopened_hard active false full true = (_, refl, refl)
unopened_hard active false full false = (_, refl, refl)

-- on an active one it is an error of the stream where the client has ended that
active_data : (a b c d : Bool) → (d || c || a && b) ≡ false → fault_of (opened_verdict (if d then ResetByUs else (if c then ResetByPeer else state_by_ends a b)) 0) ≡ fault_if a (Stream stream_closed)
active_data a b c true on = absurd (let no : true ≡ false = on in cc)
active_data a b true false on = absurd (let no : true ≡ false = on in cc)
active_data true true false false on = absurd (let no : true ≡ false = on in cc)
active_data true false false false on = refl
active_data false true false false on = refl
active_data false false false false on = refl

back_true : (x : Bool) → not x ≡ false → x ≡ true
back_true true is = refl
back_true false is = absurd (let no : true ≡ false = is in cc)

back_false : (x : Bool) → not x ≡ true → x ≡ false
back_false true is = absurd (let no : false ≡ true = is in cc)
back_false false is = refl

module _ (drained : Bool) (rows : List Row) (id : ℕ) (of_stream : (id == 0) ≡ false) where
  -- its fault by its stream's standing
  abbrev pub by_standing : Option Fault
  by_standing = fault_of (asked.verdict drained rows id 0)

  pub idle_refuses : is_idle (standing drained rows id) ≡ true → (code : ℕ) × (by_standing ≡ Some (Connection code))
  idle_refuses = idle_data (length (active_in rows)) (standing drained rows id)

  pub inactive_refuses : is_active rows id ≡ false → IsHard by_standing
  inactive_refuses idle = elim (cases_Bool (has rows id)) [
    | inl there ↦
        let k : Kept = find rows id in
        let over : is_over_in k ≡ true = back_true (is_over_in k) (sym (ap (λ x. x && not (is_over_in k)) there) ∙ idle) in
        let h = over_hard k.ended_by_client k.ended_by_gateway k.reset_by_client k.reset_by_gateway over in
        (h.0, ap (λ (st : Standing). fault_of (verdict (length (active_in rows)) st 0)) (opened_standing drained rows id of_stream there) ∙ h.1, h.2)
    | inr none ↦
        let h = unopened_hard (length (active_in rows)) (is_above id (opened_in rows)) (drained || length (opened_in rows) == most_streams) (id % 2 == 0) in
        (h.0, ap (λ (st : Standing). fault_of (verdict (length (active_in rows)) st 0)) (other_standing drained rows id of_stream none) ∙ h.1, h.2)
  ]

  module _ (active : is_active rows id ≡ true) where
    pub active_known : is_idle (standing drained rows id) ≡ false
    active_known = ap is_idle (opened_standing drained rows id of_stream (and_parts (has rows id) (not (is_over_in (find rows id))) active).0)

    pub active_by_client : by_standing ≡ fault_if (find rows id).ended_by_client (Stream stream_closed)
    active_by_client =
        let k : Kept = find rows id in
        let parts = and_parts (has rows id) (not (is_over_in k)) active in
        ap (λ (st : Standing). fault_of (verdict (length (active_in rows)) st 0)) (opened_standing drained rows id of_stream parts.0)
        ∙ active_data k.ended_by_client k.ended_by_gateway k.reset_by_client k.reset_by_gateway (back_false (is_over_in k) parts.1)

-- ---- the rows of the error table

module _ (b : Book) (flags id : ℕ) (payload : List ℕ) (of_stream : (id == 0) ≡ false) (sound : first_of (frame_rows_in (summary_in b) (data_frame flags id payload)) ≡ None) where
  -- what is kept before it, and of its stream
  abbrev s : Summary
  s = summary_in b

  abbrev frame : Frame
  frame = data_frame flags id payload

  abbrev kept : Kept
  kept = find b.rows id

  abbrev standing_fault : Option Fault
  standing_fault = by_standing b.drained b.rows id of_stream

  -- it goes past the windows, of the connection and of its stream
  abbrev past : Bool
  past = int_lt b.room (pos (length payload))

  abbrev past_own : Bool
  past_own = int_lt (room_in b.own kept) (pos (length payload))

  -- the rows that matter
  abbrev rows_from : Bool → Bool → Option Fault → Bool → List (Option Fault)
  rows_from idle past o past_own =
      (if idle && true then o else None)
      ∷ fault_if past (Connection flow_control_error)
      ∷ None
      ∷ unless_of_stream o
      ∷ None
      ∷ fault_if past_own (Stream flow_control_error)
      ∷ o
      ∷ []

  data_rows : first_of (later_rows s frame) ≡ first_of (rows_from (is_idle (standing b.drained b.rows id)) past standing_fault (is_active b.rows id && past_own))
  data_rows =
      ap (λ x. first_of (first_of (fault_if (x && (false && increment frame == 0)) (Connection protocol_error) ∷ fault_if (x && (false && is_past (b.window +ℤ pos (increment frame)))) (Connection flow_control_error) ∷ []) ∷ (if is_idle (standing b.drained b.rows id) && true then standing_fault else None) ∷ None ∷ fault_if past (Connection flow_control_error) ∷ None ∷ unless_of_stream standing_fault
      ∷ first_of (fault_if (is_active b.rows id && false) (Stream protocol_error) ∷ fault_if (is_active b.rows id && false) (Stream flow_control_error) ∷ []) ∷ fault_if (is_active b.rows id && past_own) (Stream flow_control_error) ∷ standing_fault ∷ no_goaway_in s (noted_of frame) ∷ [])) of_stream
      ∙ ap (λ (n : Option Fault). first_of ((if is_idle (standing b.drained b.rows id) && true then standing_fault else None) ∷ None ∷ fault_if past (Connection flow_control_error) ∷ None ∷ unless_of_stream standing_fault
      ∷ first_of (fault_if (is_active b.rows id && false) (Stream protocol_error) ∷ fault_if (is_active b.rows id && false) (Stream flow_control_error) ∷ []) ∷ fault_if (is_active b.rows id && past_own) (Stream flow_control_error) ∷ standing_fault ∷ n ∷ [])) (opens_no_last s frame)
      ∙ slim (if is_idle (standing b.drained b.rows id) && true then standing_fault else None) (fault_if past (Connection flow_control_error)) (unless_of_stream standing_fault) (first_of (fault_if (is_active b.rows id && false) (Stream protocol_error) ∷ fault_if (is_active b.rows id && false) (Stream flow_control_error) ∷ [])) (fault_if (is_active b.rows id && past_own) (Stream flow_control_error)) standing_fault
      ∙ ap (λ x. first_of ((if is_idle (standing b.drained b.rows id) && true then standing_fault else None) ∷ fault_if past (Connection flow_control_error) ∷ None ∷ unless_of_stream standing_fault
      ∷ first_of (fault_if x (Stream protocol_error) ∷ fault_if x (Stream flow_control_error) ∷ []) ∷ fault_if (is_active b.rows id && past_own) (Stream flow_control_error) ∷ standing_fault ∷ [])) (and_right (is_active b.rows id) false refl)
    where
      slim : (i p u w d o : Option Fault) → first_of (i ∷ None ∷ p ∷ None ∷ u ∷ w ∷ d ∷ o ∷ None ∷ []) ≡ first_of (i ∷ p ∷ None ∷ u ∷ w ∷ d ∷ o ∷ [])
      slim (Some f) p u w d o = refl
      slim None (Some f) u w d o = refl
      slim None None (Some f) w d o = refl
      slim None None None (Some f) d o = refl
      slim None None None None (Some f) o = refl
      slim None None None None None (Some f) = refl
      slim None None None None None None = refl

  -- whether the body goes wrong with it
  abbrev pub bad_body : Bool
  bad_body = is_malformed_with (content frame) (ends_stream frame) kept.outline

  -- its fault by these rows
  abbrev fault_from : Bool → Bool → Option Fault → Bool → Option Fault
  fault_from idle past o past_own = or_else (first_of (rows_from idle past o past_own)) (fault_if bad_body (Stream protocol_error))

  data_fault : fault_in s (coming frame) ≡ fault_from (is_idle (standing b.drained b.rows id)) past standing_fault (is_active b.rows id && past_own)
  data_fault = fault_later s frame sound kept.outline ∙ ap (λ (o : Option Fault). or_else o (fault_if bad_body (Stream protocol_error))) data_rows

  -- on an idle stream
  pub data_idle : is_idle (standing b.drained b.rows id) ≡ true → fault_in s (coming frame) ≡ standing_fault
  data_idle idle =
      let f = idle_refuses b.drained b.rows id of_stream idle in
      data_fault
      ∙ ap (λ x. fault_from x past standing_fault (is_active b.rows id && past_own)) idle
      ∙ ap (λ (o : Option Fault). fault_from true past o (is_active b.rows id && past_own)) f.1
      ∙ sym f.1

  module _ (known : is_idle (standing b.drained b.rows id) ≡ false) where
    -- over the connection's window
    pub data_past : past ≡ true → fault_in s (coming frame) ≡ Some (Connection flow_control_error)
    data_past is =
        data_fault
        ∙ ap (λ x. fault_from x past standing_fault (is_active b.rows id && past_own)) known
        ∙ ap (λ x. fault_from false x standing_fault (is_active b.rows id && past_own)) is

    module _ (fits : past ≡ false) where
      -- what is left within it
      within : fault_in s (coming frame) ≡ fault_from false false standing_fault (is_active b.rows id && past_own)
      within =
          data_fault
          ∙ ap (λ x. fault_from x past standing_fault (is_active b.rows id && past_own)) known
          ∙ ap (λ x. fault_from false x standing_fault (is_active b.rows id && past_own)) fits

      -- on a stream that isn't active
      pub data_inactive : is_active b.rows id ≡ false → fault_in s (coming frame) ≡ standing_fault
      data_inactive idle =
          let h = inactive_refuses b.drained b.rows id of_stream idle in
          within ∙ ap (λ (o : Option Fault). fault_from false false o (is_active b.rows id && past_own)) h.1 ∙ cases h.0 h.2 ∙ sym h.1
        where
          cases : (f : Fault) → is_of_stream (Some f) ≡ false → fault_from false false (Some f) (is_active b.rows id && past_own) ≡ Some f
          cases (Connection code) is = refl
          cases Discarded is = refl
          cases (Stream code) is = absurd (let no : true ≡ false = is in cc)

      -- on an active one
      pub data_active : is_active b.rows id ≡ true → fault_in s (coming frame) ≡ first_of (fault_if past_own (Stream flow_control_error) ∷ fault_if kept.ended_by_client (Stream stream_closed) ∷ fault_if bad_body (Stream protocol_error) ∷ [])
      data_active active =
          within
          ∙ ap (λ x. fault_from false false standing_fault (x && past_own)) active
          ∙ ap (λ (o : Option Fault). fault_from false false o past_own) (active_by_client b.drained b.rows id of_stream active)
          ∙ cases past_own kept.ended_by_client (fault_if bad_body (Stream protocol_error))
        where
          cases : (x y : Bool) (o : Option Fault) → or_else (first_of (rows_from false false (fault_if y (Stream stream_closed)) x)) o ≡ first_of (fault_if x (Stream flow_control_error) ∷ fault_if y (Stream stream_closed) ∷ o ∷ [])
          cases true true o = refl
          cases true false o = refl
          cases false true o = refl
          cases false false None = refl
          cases false false (Some f) = refl
