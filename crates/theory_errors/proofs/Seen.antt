-- What an entry calls for is the same with other views of the streams that will do.
use Rattle.std.proofs.Common.{◌≡◌, ℕ, zero, suc, ◌+◌, ◌≤◌, Bool, true, false, not, ◌&&◌, ◌||◌, ◌==◌, nat_lt, if◌then◌else◌, List, [], ◌∷◌, ◌++◌, length, get_or, Option, Some, None, refl, sym, ◌∙◌, ap, inl, inr}
use Rattle.std.proofs.lemmas.Bool.{and_parts, and_right, or_parts, not-true, cases_Bool}
use Rattle.std.specs.Prelude.{is_some}
use Rattle.std.specs.List.{list_any}
use Rattle.model.specs.Frames.{Frame, data_kind, window_update_kind, continuation_kind, ends_stream, content, protocol_error, no_error}
use Rattle.model.specs.Setup.{Setup}
use Rattle.model.specs.Tapes.{Noted, Entry}
use Rattle.model.specs.Tapes.Breach.{WrongPreface, TooLong}
use Rattle.model.specs.Tapes.Entry.{Came, Breached, Happened, Sent, Did}
use Rattle.model.specs.Decoding.{Partial}
use Rattle.model.specs.Limits.{most_streams, high_water}
use Rattle.model.specs.Errors.{Fault, first_of, or_else}
use Rattle.model.specs.ErrorTable.{is_malformed}
use Rattle.model.specs.Malformed.{is_malformed_content}
use Rattle.model.specs.Errors.Fault.{Stream}
use Rattle.model.specs.FrameErrors.{fault_if}
use Rattle.model.specs.Lifetimes.{ends_by}
use Rattle.model.specs.Causes.{Cause, cause_if}
use Rattle.model.specs.Causes.Cause.{LargeBody, BadAnswer}
use Rattle.model.specs.WindowsOnTape.{increment}
use Rattle.model.specs.Courses.{cause_of_frame, first_of_both}
use Rattle.model.specs.Octets.{is_empty}
use Rattle.model.specs.Payloads.{number_field}
use Rattle.model.specs.ErrorClause.{rst_stream, acks, reset_for, is_plainly_flagged, is_filled}
use Rattle.theory_errors.specs.Summary.{Outline, carried_in, Stream as Kept, Summary}
use Rattle.theory_errors.specs.Judging.{is_over_in, is_active_in, completed_in, malformed_in, rows_in, is_crowded_in, fault_for}
use Rattle.theory_errors.specs.Owing.{about_in, fault_in, new_cause_in, outline_from, next_outline, owed_first_in, resets_in, reset_behind_in, owes_in, is_given_back_in, is_part_in, is_rightly_sent_in, must_end_in}
use Rattle.theory_errors.specs.Rows.{WillDo, with_streams}
use Rattle.model.proofs.OwedSteps.{no_reset_for}
use Rattle.theory_errors.proofs.Alike.{active_same, when_active, fault_for_seen}
use Rattle.theory_errors.proofs.Wanted.{IsWanted, bears, wanted}

-- ---- the last row

-- where no row is a fault, the one at a place isn't
pub none_at : (place : ℕ) (rows : List (Option Fault)) → first_of rows ≡ None → get_or rows place None ≡ None
none_at place [] is = refl
none_at zero (None ∷ rows) is = refl
none_at (suc place) (None ∷ rows) is = none_at place rows is
none_at place (Some fault ∷ rows) is = absurd (cc)

-- the last row matters only where no other is a fault
last_row : (found x y : Option Fault) → (found ≡ None → x ≡ y) → or_else found x ≡ or_else found y
last_row None x y same = same refl
last_row (Some fault) x y same = refl

-- ---- frames that bring nothing

-- a frame that brings its stream nothing is neither malformed nor a cause
pub idle_frame : (outline : Outline) (s : Summary) (noted : Noted) → bears s noted.frame ≡ false → malformed_in outline s (Came noted) ≡ None
idle_frame outline s noted none = cases (completed_in s.block noted.frame) (or_parts (is_some (completed_in s.block noted.frame)) (noted.frame.kind == data_kind) none)
  where
    cases : (block : Option Partial) → (is_some block ≡ false) × ((noted.frame.kind == data_kind) ≡ false) → fault_if (not (is_some outline.cause) && is_malformed (carried_in outline) block noted) (Stream protocol_error) ≡ None
    cases (Some block) is = absurd (let no : true ≡ false = is.0 in cc)
    cases None is =
        ap (λ b. fault_if (not (is_some outline.cause) && (b && is_malformed_content (carried_in outline) (content noted.frame) (ends_stream noted.frame))) (Stream protocol_error)) is.1
        ∙ ap (λ b. fault_if b (Stream protocol_error)) (and_right (not (is_some outline.cause)) false refl)

pub idle_cause : (setup : Setup) (outline : Outline) (s : Summary) (noted : Noted) → bears s noted.frame ≡ false → cause_of_frame setup (carried_in outline) (completed_in s.block noted.frame) noted ≡ None
idle_cause setup outline s noted none = cases (completed_in s.block noted.frame) (or_parts (is_some (completed_in s.block noted.frame)) (noted.frame.kind == data_kind) none)
  where
    cases : (block : Option Partial) → (is_some block ≡ false) × ((noted.frame.kind == data_kind) ≡ false) → cause_of_frame setup (carried_in outline) block noted ≡ None
    cases (Some block) is = absurd (let no : true ≡ false = is.0 in cc)
    cases None is = ap (λ b. cause_if (b && nat_lt setup.max_body (outline.octets + length (content noted.frame))) LargeBody) is.1

-- ---- faults

-- A frame that brings something, and has no fault by the first rows, is for a wanted stream.
pub for_wanted : (s : Summary) (noted : Noted) → length s.opened ≤ most_streams → first_of (rows_in s noted) ≡ None → bears s noted.frame ≡ true → IsWanted s noted.frame.id
for_wanted s noted few none bearing = wanted s noted.frame few (none_at 4 (rows_in s noted) none) (none_at 16 (rows_in s noted) none) bearing

-- The course of a stream that isn't wanted doesn't matter.
pub course_matters : (s : Summary) (noted : Noted) (a b : Outline) → length s.opened ≤ most_streams → (IsWanted s noted.frame.id → a ≡ b) → fault_for a s (Came noted) ≡ fault_for b s (Came noted)
course_matters s noted a b few same = last_row (first_of (rows_in s noted)) (malformed_in a s (Came noted)) (malformed_in b s (Came noted)) (λ none. elim (cases_Bool (bears s noted.frame)) [
  | inl bearing ↦ ap (λ x. malformed_in x s (Came noted)) (same (for_wanted s noted few none bearing))
  | inr idle ↦ idle_frame a s noted idle ∙ sym (idle_frame b s noted idle)
])

-- An answer fails only on an active stream.
abbrev pub FailsActive : Bool → Summary → Entry → Type 0
FailsActive fails s (Happened event) = fails ≡ true → is_active_in (about_in s (Happened event)) s ≡ true
FailsActive fails s e = Unit {0}

-- What is sent ends its stream only where that is active.
abbrev pub EndsActive : Summary → Entry → Type 0
EndsActive s (Sent noted) = ends_by (completed_in s.block_out noted.frame) noted.frame ≡ true → is_active_in noted.frame.id s ≡ true
EndsActive s e = Unit {0}

module _ (setup : Setup) (fails : Bool) (f : ℕ → Kept) (s : Summary) (will : WillDo f s) (few : length s.opened ≤ most_streams) where
  abbrev pub view : Summary
  view = with_streams f s

  -- what is kept of a wanted stream is right
  pub right_if_wanted : (id : ℕ) → IsWanted s id → f id ≡ s.stream id
  right_if_wanted id (inl active) =
      let parts = and_parts (list_any (λ other. other == id) s.opened) (not (is_over_in (s.stream id))) active in
      (will.alike id parts.0).live (not-true (is_over_in (s.stream id)) parts.1)
  right_if_wanted id (inr idle) = will.idle id idle

  pub fault_seen : (e : Entry) → fault_in view e ≡ fault_in s e
  fault_seen (Came noted) =
      fault_for_seen f s will (f noted.frame.id).outline (Came noted)
      ∙ course_matters s noted (f noted.frame.id).outline (s.stream noted.frame.id).outline few (λ is. ap (λ (k : Kept). k.outline) (right_if_wanted noted.frame.id is))
  fault_seen (Breached WrongPreface) = refl
  fault_seen (Breached TooLong) = refl
  fault_seen (Happened event) = refl
  fault_seen (Sent noted) = refl
  fault_seen (Did act) = refl

  -- ---- resets for causes

  -- an entry that is no cause resets nothing
  none_reset : (g : ℕ → Kept) (id : ℕ) (e : Entry) → new_cause_in setup fails id (with_streams g s) e (g id).outline (fault_for (g id).outline (with_streams g s) e) ≡ None
      → (let now = next_outline setup fails id (with_streams g s) e in reset_for id now.head_out (g id).outline.cause now.cause) ≡ []
  none_reset g id e none =
      ap (λ c. reset_for id (next_outline setup fails id (with_streams g s) e).head_out (g id).outline.cause (first_of_both (g id).outline.cause c)) none
      ∙ no_reset_for id (next_outline setup fails id (with_streams g s) e).head_out (g id).outline.cause

  pub no_if : (b : Bool) (x : Option Cause) → x ≡ None → (if b then x else None) ≡ None
  no_if true x none = none
  no_if false x none = refl

  -- what an entry makes of the course of a stream of which the right thing is kept
  pub next_seen : (id : ℕ) (e : Entry) → f id ≡ s.stream id → next_outline setup fails id view e ≡ next_outline setup fails id s e
  next_seen id e right =
      ap (λ (k : Kept). outline_from setup fails id view e k (fault_for k.outline view e)) right
      ∙ ap (λ (found : Option Fault). outline_from setup fails id s e (s.stream id) found) (fault_for_seen f s will (s.stream id).outline e)

  -- the resets of an entry about a stream of which the right thing is kept
  resets_right : (e : Entry) → f (about_in s e) ≡ s.stream (about_in s e) → resets_in setup fails view e ≡ resets_in setup fails s e
  resets_right e right =
      let id : ℕ = about_in s e in
      ap (λ (k : Kept). let now = next_outline setup fails id view e in reset_for id now.head_out k.outline.cause now.cause) right
      ∙ ap (λ (now : Outline). reset_for id now.head_out (s.stream id).outline.cause now.cause) (next_seen id e right)

  -- a frame that brings nothing is no cause, nor is one with a fault
  no_cause_if_idle : (g : ℕ → Kept) (noted : Noted) (found : Option Fault) → bears s noted.frame ≡ false → new_cause_in setup fails noted.frame.id (with_streams g s) (Came noted) (g noted.frame.id).outline found ≡ None
  no_cause_if_idle g noted None idle = no_if (noted.frame.id == noted.frame.id && nat_lt 0 noted.frame.id) _ (idle_cause setup (g noted.frame.id).outline s noted idle)
  no_cause_if_idle g noted (Some fault) idle = no_if (noted.frame.id == noted.frame.id && nat_lt 0 noted.frame.id) None refl

  no_cause_if_wrong : (g : ℕ → Kept) (noted : Noted) (fault : Fault) (found : Option Fault) → found ≡ Some fault → new_cause_in setup fails noted.frame.id (with_streams g s) (Came noted) (g noted.frame.id).outline found ≡ None
  no_cause_if_wrong g noted fault found is =
      ap (λ x. new_cause_in setup fails noted.frame.id (with_streams g s) (Came noted) (g noted.frame.id).outline x) is
      ∙ no_if (noted.frame.id == noted.frame.id && nat_lt 0 noted.frame.id) None refl

  -- the resets of a frame
  resets_came : (noted : Noted) → resets_in setup fails view (Came noted) ≡ resets_in setup fails s (Came noted)
  resets_came noted = cases (first_of (rows_in s noted)) refl (bears s noted.frame) refl
    where
      id : ℕ
      id = noted.frame.id

      wrong : (fault : Fault) → first_of (rows_in s noted) ≡ Some fault → fault_for (s.stream id).outline s (Came noted) ≡ Some fault
      wrong fault is = ap (λ (x : Option Fault). or_else x (malformed_in (s.stream id).outline s (Came noted))) is

      wrong_seen : (fault : Fault) → first_of (rows_in s noted) ≡ Some fault → fault_for (f id).outline view (Came noted) ≡ Some fault
      wrong_seen fault is = fault_for_seen f s will (f id).outline (Came noted) ∙ ap (λ (x : Option Fault). or_else x (malformed_in (f id).outline s (Came noted))) is

      cases : (first : Option Fault) → first_of (rows_in s noted) ≡ first → (b : Bool) → bears s noted.frame ≡ b → resets_in setup fails view (Came noted) ≡ resets_in setup fails s (Came noted)
      cases None is true bearing = resets_right (Came noted) (right_if_wanted id (for_wanted s noted few is bearing))
      cases None is false idle =
          none_reset f id (Came noted) (no_cause_if_idle f noted _ idle) ∙ sym (none_reset s.stream id (Came noted) (no_cause_if_idle s.stream noted _ idle))
      cases (Some fault) is b bearing =
          none_reset f id (Came noted) (no_cause_if_wrong f noted fault _ (wrong_seen fault is)) ∙ sym (none_reset s.stream id (Came noted) (no_cause_if_wrong s.stream noted fault _ (wrong fault is)))

  -- the resets of any entry
  resets_seen : (e : Entry) → FailsActive fails s e → resets_in setup fails view e ≡ resets_in setup fails s e
  resets_seen (Came noted) living = resets_came noted
  resets_seen (Breached breach) living = none_reset f 0 (Breached breach) refl ∙ sym (none_reset s.stream 0 (Breached breach) refl)
  resets_seen (Sent noted) living = none_reset f 0 (Sent noted) refl ∙ sym (none_reset s.stream 0 (Sent noted) refl)
  resets_seen (Did act) living = none_reset f 0 (Did act) refl ∙ sym (none_reset s.stream 0 (Did act) refl)
  resets_seen (Happened event) living = elim (cases_Bool fails) [
    | inl is ↦ resets_right (Happened event) (right_if_wanted (about_in s (Happened event)) (inl (living is)))
    | inr is ↦ none_reset f (about_in s (Happened event)) (Happened event) (no_failure is) ∙ sym (none_reset s.stream (about_in s (Happened event)) (Happened event) (no_failure is))
  ]
    where
      no_failure : fails ≡ false → (if about_in s (Happened event) == about_in s (Happened event) && nat_lt 0 (about_in s (Happened event)) then cause_if fails BadAnswer else None) ≡ None
      no_failure is = no_if (about_in s (Happened event) == about_in s (Happened event) && nat_lt 0 (about_in s (Happened event))) (cause_if fails BadAnswer) (ap (λ b. cause_if b BadAnswer) is)

  -- ---- frames that are sent

  behind_seen : (e : Entry) → EndsActive s e → reset_behind_in view e ≡ reset_behind_in s e
  behind_seen (Came noted) ends = refl
  behind_seen (Breached breach) ends = refl
  behind_seen (Happened event) ends = refl
  behind_seen (Did act) ends = refl
  behind_seen (Sent noted) ends = cases (ends_by (completed_in s.block_out noted.frame) noted.frame) refl
    where
      id : ℕ
      id = noted.frame.id

      cases : (b : Bool) → ends_by (completed_in s.block_out noted.frame) noted.frame ≡ b → (if b && not (f id).ended_by_client then rst_stream id no_error ∷ [] else []) ≡ (if b && not (s.stream id).ended_by_client then rst_stream id no_error ∷ [] else [])
      cases false is = refl
      cases true is = ap (λ (k : Kept). if not k.ended_by_client then rst_stream id no_error ∷ [] else []) (right_if_wanted id (inl (ends is)))

  -- What an entry calls for.
  pub owes_seen : (e : Entry) → FailsActive fails s e → EndsActive s e → owes_in setup fails view e ≡ owes_in setup fails s e
  owes_seen e living ends =
      let found : Option Fault = fault_in s e in
      ap (λ (x : Option Fault). owed_first_in view e x ++ (acks e x ++ (resets_in setup fails view e ++ reset_behind_in view e))) (fault_seen e)
      ∙ ap (λ (fs : List Frame). fs ++ (acks e found ++ (resets_in setup fails view e ++ reset_behind_in view e))) (first_seen e found)
      ∙ ap (λ (fs : List Frame). owed_first_in s e found ++ (acks e found ++ (fs ++ reset_behind_in view e))) (resets_seen e living)
      ∙ ap (λ (fs : List Frame). owed_first_in s e found ++ (acks e found ++ (resets_in setup fails s e ++ fs))) (behind_seen e ends)
    where
      first_seen : (x : Entry) (found : Option Fault) → owed_first_in view x found ≡ owed_first_in s x found
      first_seen x found = refl

  -- Whether the connection is to end, and what may be sent.
  pub end_seen : must_end_in view ≡ must_end_in s
  end_seen = ap (λ (ids : List ℕ). s.ends || (s.drained || length s.opened == most_streams) && length ids == 0) (active_same f s will)

  given_back_seen : (frame : Frame) → is_given_back_in view frame ≡ is_given_back_in s frame
  given_back_seen frame =
      ap (λ b. length frame.payload == 4 && nat_lt (number_field frame.payload) 2147483648 && nat_lt 0 (increment frame) && not (is_crowded_in s) && (frame.id == 0 || b)) (when_active f s will (λ kept. not kept.ended_by_client) frame.id)

  part_seen : (frame : Frame) → is_part_in view frame ≡ is_part_in s frame
  part_seen frame =
      ap (λ b. b && (not (is_empty frame.payload) || frame.kind == data_kind && ends_stream frame) && (frame.kind == continuation_kind || nat_lt s.untaken high_water) && is_filled frame)
      (when_active f s will (λ kept. not kept.ended_by_gateway) frame.id)

  pub rightly_seen : (frame : Frame) → is_rightly_sent_in view frame ≡ is_rightly_sent_in s frame
  rightly_seen frame =
      ap (λ b. is_plainly_flagged frame && (if frame.kind == window_update_kind then b else is_part_in view frame)) (given_back_seen frame)
      ∙ ap (λ b. is_plainly_flagged frame && (if frame.kind == window_update_kind then is_given_back_in s frame else b)) (part_seen frame)
