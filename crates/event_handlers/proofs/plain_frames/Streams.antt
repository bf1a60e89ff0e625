-- What a frame without a fragment of a header block leaves of its stream: whether that is active, and why the gateway replies to it itself.
use Rattle.std.proofs.Common.{◌≡◌, ℕ, Bool, true, false, not, ◌&&◌, ◌||◌, ◌==◌, if◌then◌else◌, List, [], ◌∷◌, map, Option, Some, None, refl, sym, ◌∙◌, ap}
use Rattle.std.proofs.lemmas.Bool.{and_parts, or_parts}
use Rattle.std.specs.Prelude.{is_none}
use Rattle.std.specs.List.{list_any}
use Rattle.model.specs.Frames.{Frame, data_kind, rst_stream_kind, continuation_kind, has_flag, ends_stream}
use Rattle.model.specs.Setup.{Setup}
use Rattle.model.specs.Tapes.Note.{NoBlock}
use Rattle.model.specs.Decoding.{Partial, joined}
use Rattle.model.specs.Causes.{Cause}
use Rattle.model.specs.Courses.{first_of_both}
use Rattle.model.specs.Lifetimes.{opens_by, ends_by}
use Rattle.theory_errors.specs.Summary.{Stream as Kept, Summary, Outline}
use Rattle.theory_errors.specs.Judging.{is_over_in, completed_in, fault_for}
use Rattle.theory_errors.specs.After.{kept_behind}
use Rattle.theory_errors.specs.Rows.{Row, Slot, fresh, ids_of, find, kept_in, slot_of, row_behind, row_opened}
use Rattle.theory_errors.specs.Rows.Slot.{Live, Over}
use Rattle.theory_errors.specs.Book.{Book, summary_in, book_after}
use Rattle.theory_errors.specs.Tidy.{IsTidy, AreKept}
use Rattle.theory_errors.specs.Quiet.{noted_of, coming}
use Rattle.theory_errors.proofs.Rows.{find_changed, ids_changed, over_stays, slot_alike}
use Rattle.theory_errors.proofs.Tidy.{kept_behind_entry}
use Rattle.theory_responses.specs.State.{Change}
use Rattle.theory_responses.specs.Rule.{found_by}
use Rattle.streams.specs.Asked.{has, is_active}
use Rattle.connection_state.specs.Judgement.{IsPlain}
use Rattle.refinement.proofs.Gaining.{caused}
use Rattle.refinement.proofs.Owing.{no_more}
use Rattle.refinement.proofs.Coming.{change_between}

-- ---- rows of streams that aren't active

-- nothing is kept of the course of such a stream
pub idle_course : (rows : List Row) (id : ℕ) → AreKept rows → is_active rows id ≡ false → (find rows id).outline ≡ fresh.outline
idle_course [] id kept idle = refl
idle_course (row ∷ rows) id kept idle = by (row.id == id) refl (idle_course rows id kept.2)
  where
    by_slot : (slot : Slot) → IsTidy slot → not (is_over_in (kept_in slot)) ≡ false → (kept_in slot).outline ≡ fresh.outline
    by_slot (Over by_us) tidy off = refl
    by_slot (Live k) tidy off = absurd (let no : true ≡ false = sym (ap not tidy.0) ∙ off in cc)

    by : (b : Bool) → (row.id == id) ≡ b → (is_active rows id ≡ false → (find rows id).outline ≡ fresh.outline) → (find (row ∷ rows) id).outline ≡ fresh.outline
    by true is rest =
        ap (λ b. (if b then kept_in row.slot else find rows id).outline) is
        ∙ by_slot row.slot kept.0.tidy (sym (ap (λ b. (b || has rows id) && not (is_over_in (if b then kept_in row.slot else find rows id))) is) ∙ idle)
    by false is rest =
        ap (λ b. (if b then kept_in row.slot else find rows id).outline) is
        ∙ rest (sym (ap (λ b. (b || has rows id) && not (is_over_in (if b then kept_in row.slot else find rows id))) is) ∙ idle)

-- a change that is none
abbrev pub no_change : Change
no_change = record { opens = false; over = false; caused = None }

none_found : (c : Option Cause) → found_by c c ≡ None
none_found None = refl
none_found (Some cause) = refl

same_change : (a : Bool) (c : Option Cause) → (let x : Change = record { opens = not a && a; over = a && not a; caused = found_by c c } in x) ≡ no_change
same_change true c = ap (λ (o : Option Cause). let x : Change = record { opens = false; over = false; caused = o } in x) (none_found c)
same_change false c = ap (λ (o : Option Cause). let x : Change = record { opens = false; over = false; caused = o } in x) (none_found c)

and_false : (b : Bool) → (b && false) ≡ false
and_false true = refl
and_false false = refl

-- what is kept of the stream behind the frame
abbrev pub behind_frame : Setup → Book → Frame → Kept
behind_frame setup b frame = kept_behind setup false (summary_in b) (coming frame) frame.id (find b.rows frame.id)

module _ (setup : Setup) (b : Book) (frame : Frame) (plain : IsPlain frame) (kept : AreKept b.rows) where
  abbrev behind_it : Kept
  behind_it = behind_frame setup b frame

  abbrev pub told : Summary
  told = summary_in b

  abbrev pub now : List Row
  now = (book_after setup false b (coming frame)).rows

  -- it completes no header block
  pub none_completed : completed_in b.block frame ≡ None
  none_completed =
      ap (λ x. if (x || frame.kind == continuation_kind) && has_flag 4 frame then joined b.block frame else None) plain.no_headers
      ∙ ap (λ x. if x && has_flag 4 frame then joined b.block frame else None) plain.no_continuation

  -- so it opens no stream
  rows_now : now ≡ map (row_behind setup false told (coming frame)) b.rows
  rows_now =
      ap (λ (o : Option Partial). if opens_by b.drained (ids_of b.rows) o NoBlock then row_opened setup false told (coming frame) frame.id ∷ map (row_behind setup false told (coming frame)) b.rows else map (row_behind setup false told (coming frame)) b.rows) none_completed

  pub ids_now : ids_of now ≡ ids_of b.rows
  ids_now = ap ids_of rows_now ∙ ids_changed setup false told (coming frame) b.rows

  has_now : (other : ℕ) → has now other ≡ has b.rows other
  has_now other = ap (λ (ids : List ℕ). list_any (λ n. n == other) ids) ids_now

  found_there : has b.rows frame.id ≡ true → find now frame.id ≡ kept_in (slot_of behind_it)
  found_there there = ap (λ (rows : List Row). find rows frame.id) rows_now ∙ find_changed setup false told (coming frame) b.rows frame.id there

  -- a stream that isn't over behind it
  pub lives : is_active b.rows frame.id ≡ true → is_over_in behind_it ≡ false → (find now frame.id ≡ behind_it) × (is_active now frame.id ≡ true)
  lives active on =
      let parts = and_parts (has b.rows frame.id) (not (is_over_in (find b.rows frame.id))) active in
      let found : find now frame.id ≡ behind_it = found_there parts.0 ∙ (slot_alike behind_it).live on in
      (found, ap (λ x. x && not (is_over_in (find now frame.id))) (has_now frame.id ∙ parts.0) ∙ ap (λ (k : Kept). not (is_over_in k)) found ∙ ap not on)

  -- one that is
  pub dies : is_over_in behind_it ≡ true → is_active now frame.id ≡ false
  dies over = by (has b.rows frame.id) refl
    where
      by : (x : Bool) → has b.rows frame.id ≡ x → is_active now frame.id ≡ false
      by false there = ap (λ x. x && not (is_over_in (find now frame.id))) (has_now frame.id ∙ there)
      by true there =
          ap (λ x. x && not (is_over_in (find now frame.id))) (has_now frame.id ∙ there) ∙ ap (λ (k : Kept). not (is_over_in k)) (found_there there) ∙ ap not ((slot_alike behind_it).over ∙ over)

  -- one that wasn't active
  pub stays_idle : is_active b.rows frame.id ≡ false → is_active now frame.id ≡ false
  stays_idle idle = by (has b.rows frame.id) refl
    where
      over_then : (x : Bool) → not x ≡ false → x ≡ true
      over_then true is = refl
      over_then false is = cc

      by : (x : Bool) → has b.rows frame.id ≡ x → is_active now frame.id ≡ false
      by false there = ap (λ x. x && not (is_over_in (find now frame.id))) (has_now frame.id ∙ there)
      by true there =
          dies (over_stays setup false told (coming frame) frame.id (find b.rows frame.id) (fault_for (find b.rows frame.id).outline told (coming frame))
          (over_then (is_over_in (find b.rows frame.id)) (sym (ap (λ x. x && not (is_over_in (find b.rows frame.id))) there) ∙ idle)))

  -- Nothing changes where the stream stays active with its cause, if it was active.
  pub unchanged : (is_active b.rows frame.id ≡ true → (is_over_in behind_it ≡ false) × (behind_it.outline.cause ≡ (find b.rows frame.id).outline.cause))
      → (is_active now frame.id ≡ is_active b.rows frame.id) × ((find now frame.id).outline.cause ≡ (find b.rows frame.id).outline.cause)
  unchanged calm = by (is_active b.rows frame.id) refl
    where
      by : (x : Bool) → is_active b.rows frame.id ≡ x → (is_active now frame.id ≡ is_active b.rows frame.id) × ((find now frame.id).outline.cause ≡ (find b.rows frame.id).outline.cause)
      by true active =
          let so = calm active in
          let found = lives active so.0 in
          (found.1 ∙ sym active, ap (λ (k : Kept). k.outline.cause) found.0 ∙ so.1)
      by false idle =
          let now_idle = stays_idle idle in (
            now_idle ∙ sym idle,
            ap (λ (x : Outline). x.cause) (idle_course now frame.id (kept_behind_entry setup false b (coming frame) kept) now_idle)
                ∙ ap (λ (x : Outline). x.cause) (sym (idle_course b.rows frame.id kept idle)),
          )

  -- then that is no change
  pub change_is_none : (is_active now frame.id ≡ is_active b.rows frame.id) × ((find now frame.id).outline.cause ≡ (find b.rows frame.id).outline.cause) → change_between b.rows now frame.id ≡ no_change
  change_is_none same =
      ap (λ x. let c : Change = record { opens = not (is_active b.rows frame.id) && x; over = is_active b.rows frame.id && not x; caused = found_by (find b.rows frame.id).outline.cause (find now frame.id).outline.cause } in c) same.0
      ∙ ap (λ (o : Option Cause). let c : Change = record { opens = not (is_active b.rows frame.id) && is_active b.rows frame.id; over = is_active b.rows frame.id && not (is_active b.rows frame.id); caused = found_by (find b.rows frame.id).outline.cause o } in c) same.1
      ∙ same_change (is_active b.rows frame.id) (find b.rows frame.id).outline.cause

  -- and the stream is served as before
  pub served_same : (is_active now frame.id ≡ is_active b.rows frame.id) × ((find now frame.id).outline.cause ≡ (find b.rows frame.id).outline.cause) → (is_active now frame.id && is_none (find now frame.id).outline.cause) ≡ (is_active b.rows frame.id && is_none (find b.rows frame.id).outline.cause)
  served_same same = ap (λ x. x && is_none (find now frame.id).outline.cause) same.0 ∙ ap (λ (o : Option Cause). is_active b.rows frame.id && is_none o) same.1

  -- ---- what a frame does

  -- one that isn't DATA or RST_STREAM doesn't end its stream
  pub over_calm : (frame.kind == rst_stream_kind) ≡ false → (frame.kind == data_kind) ≡ false → is_over_in behind_it ≡ is_over_in (find b.rows frame.id)
  over_calm no_reset no_data =
      let k : Kept = find b.rows frame.id in
      ap (λ x. k.reset_by_gateway || ((x && frame.id == frame.id) || k.reset_by_client) || ((frame.id == frame.id && ends_by (completed_in b.block frame) frame) || k.ended_by_client) && k.ended_by_gateway) no_reset
      ∙ ap (λ (o : Option Partial). k.reset_by_gateway || k.reset_by_client || ((frame.id == frame.id && ends_by o frame) || k.ended_by_client) && k.ended_by_gateway) none_completed
      ∙ ap (λ x. k.reset_by_gateway || k.reset_by_client || ((frame.id == frame.id && (x && ends_stream frame)) || k.ended_by_client) && k.ended_by_gateway) no_data
      ∙ ap (λ x. k.reset_by_gateway || k.reset_by_client || (x || k.ended_by_client) && k.ended_by_gateway) (and_false (frame.id == frame.id))

  -- nor does DATA one that the gateway hasn't ended
  pub over_half : (frame.kind == rst_stream_kind) ≡ false → (find b.rows frame.id).ended_by_gateway ≡ false → is_over_in (find b.rows frame.id) ≡ false → is_over_in behind_it ≡ false
  over_half no_reset half on =
      let k : Kept = find b.rows frame.id in
      let first = or_parts (k.reset_by_gateway || k.reset_by_client) (k.ended_by_client && k.ended_by_gateway) on in
      let parts = or_parts k.reset_by_gateway k.reset_by_client first.0 in
      ap (λ x. k.reset_by_gateway || ((x && frame.id == frame.id) || k.reset_by_client) || behind_it.ended_by_client && k.ended_by_gateway) no_reset
      ∙ ap (λ x. k.reset_by_gateway || k.reset_by_client || behind_it.ended_by_client && x) half
      ∙ ap (λ x. x || k.reset_by_client || behind_it.ended_by_client && false) parts.0
      ∙ ap (λ x. x || behind_it.ended_by_client && false) parts.1
      ∙ and_false behind_it.ended_by_client

  -- a frame that is no cause leaves the cause
  pub cause_kept : caused setup told (noted_of frame) ≡ None → behind_it.outline.cause ≡ (find b.rows frame.id).outline.cause
  cause_kept none = ap (λ (o : Option Cause). first_of_both (find b.rows frame.id).outline.cause o) none ∙ no_more (find b.rows frame.id).outline.cause
