-- The rows behind an entry stand for the streams behind it, where no stream that may be opened yet was told anything.
use Rattle.std.proofs.Common.{◌≡◌, ℕ, ◌≤◌, ◌%◌, Bool, true, false, ◌&&◌, ◌||◌, ◌==◌, nat_lt, if◌then◌else◌, List, ◌∷◌, map, length, Option, Some, None, refl, sym, ◌∙◌, ap, subst, arith, inl, inr, not}
use Rattle.std.proofs.lemmas.Bool.{and_parts, cases_Bool, eqb-true, ltb-true}
use Rattle.std.specs.List.{list_any, list_all}
use Rattle.model.specs.Frames.{Frame, ends_headers}
use Rattle.model.specs.Setup.{Setup}
use Rattle.model.specs.Tapes.{Note, Noted, Entry}
use Rattle.model.specs.Tapes.Entry.{Came, Breached, Happened, Sent, Did}
use Rattle.model.specs.Decoding.{Partial, joined}
use Rattle.model.specs.Limits.{most_streams}
use Rattle.model.specs.Errors.{Fault}
use Rattle.model.specs.Lifetimes.{may_open, opens_by}
use Rattle.model.proofs.OpenedLaws.{joined_own, not_opened, may_open_by}
use Rattle.theory_errors.specs.Summary.{Stream as Kept, Summary}
use Rattle.theory_errors.specs.Judging.{is_over_in, completed_in, fault_for}
use Rattle.theory_errors.specs.Owing.{opened_after, drained_after}
use Rattle.theory_errors.specs.After.{stream_from, kept_behind, after}
use Rattle.theory_errors.specs.Rows.{fresh, kept_in, slot_of, Row, ids_of, find, with_streams, row_behind, row_opened, rows_after, IsAlike, WillDo, StandFor}
use Rattle.theory_errors.proofs.Alike.{fault_for_seen}
use Rattle.theory_errors.proofs.Rows.{alike_through, alike_itself, slot_alike, over_stays, by_us_after, find_changed, find_none, ids_changed}

-- Rows that stand for the streams will do.
pub will_do : (rows : List Row) (s : Summary) → StandFor rows s → WillDo (find rows) s
will_do rows s stand = record {
  alike = stand.alike;
  idle = λ id may. find_none rows id (ap (λ (ids : List ℕ). list_any (λ other. other == id) ids) stand.ids ∙ not_opened s.drained s.opened id may) ∙ sym (stand.idle id may);
}

-- ---- a header block is on its frame's stream

pub completed_own : (begun : Option Partial) (frame : Frame) (block : Partial) → completed_in begun frame ≡ Some block → block.id ≡ frame.id
completed_own begun frame block is = cases (ends_headers frame) is
  where
    cases : (b : Bool) → (if b then joined begun frame else None) ≡ Some block → block.id ≡ frame.id
    cases true made = joined_own begun frame block made
    cases false made = absurd (cc)

-- a stream is opened only where it may be
pub opens_own : (drained : Bool) (opened : List ℕ) (begun : Option Partial) (frame : Frame) (note : Note) → opens_by drained opened (completed_in begun frame) note ≡ true → may_open drained opened frame.id ≡ true
opens_own drained opened begun frame note opens = may_open_by drained opened (completed_in begun frame) note frame.id opens (completed_own begun frame)

-- ---- one entry more

module _ (setup : Setup) (fails : Bool) (rows : List Row) (s : Summary) (stand : StandFor rows s) where
  -- the summary as the rows tell it
  abbrev pub told : Summary
  told = with_streams (find rows) s

  -- what is kept of a stream goes on so, by the rows
  goes_on_so : (e : Entry) (id : ℕ) (kept : Kept) → kept_behind setup fails told e id kept ≡ kept_behind setup fails s e id kept
  goes_on_so e id kept = ap (λ (found : Option Fault). stream_from setup fails s e id kept found) (fault_for_seen (find rows) s (will_do rows s stand) kept.outline e)

  -- a stream of which the right thing is kept goes on so
  stream_right : (e : Entry) (id : ℕ) (kept : Kept) → kept ≡ s.stream id → kept_behind setup fails told e id kept ≡ kept_behind setup fails s e id (s.stream id)
  stream_right e id kept right = ap (λ (k : Kept). kept_behind setup fails told e id k) right ∙ goes_on_so e id (s.stream id)

  -- one that was opened goes on alike
  stream_alike : (e : Entry) (id : ℕ) → list_any (λ other. other == id) s.opened ≡ true → IsAlike (kept_behind setup fails told e id (find rows id)) (kept_behind setup fails s e id (s.stream id))
  stream_alike e id opened =
      let was : IsAlike (find rows id) (s.stream id) = stand.alike id opened in
      elim (cases_Bool (is_over_in (s.stream id))) [
        | inr live ↦ alike_itself (kept_behind setup fails told e id (find rows id)) (kept_behind setup fails s e id (s.stream id)) (stream_right e id (find rows id) (was.live live))
        | inl over ↦ let ended = over_stays setup fails s e id (s.stream id) (fault_for (s.stream id).outline s e) over in record {
          over = over_stays setup fails told e id (find rows id) (fault_for (find rows id).outline told e) (was.over ∙ over) ∙ sym ended;
          by_us = by_us_after setup fails told s e id (find rows id) (s.stream id) (fault_for (find rows id).outline told e) (fault_for (s.stream id).outline s e) was.by_us;
          live = λ live. absurd (let no : true ≡ false = sym ended ∙ live in cc);
        }
      ]

  -- a row that was there
  old_row : (e : Entry) (id : ℕ) → list_any (λ other. other == id) s.opened ≡ true → IsAlike (find (map (row_behind setup fails told e) rows) id) (kept_behind setup fails s e id (s.stream id))
  old_row e id opened =
      let there : list_any (λ other. other == id) (ids_of rows) ≡ true = ap (λ (ids : List ℕ). list_any (λ other. other == id) ids) stand.ids ∙ opened in
      alike_through _ (kept_behind setup fails told e id (find rows id)) _
      (subst (λ (k : Kept). IsAlike k (kept_behind setup fails told e id (find rows id))) (sym (find_changed setup fails told e rows id there)) (slot_alike (kept_behind setup fails told e id (find rows id))))
      (stream_alike e id opened)

  -- the row of a stream that the frame opens
  new_row : (noted : Noted) (id : ℕ) → noted.frame.id ≡ id → may_open s.drained s.opened noted.frame.id ≡ true → IsAlike (kept_in (slot_of (kept_behind setup fails told (Came noted) noted.frame.id fresh))) (kept_behind setup fails s (Came noted) id (s.stream id))
  new_row noted id same may =
      subst (λ i. IsAlike (kept_in (slot_of (kept_behind setup fails told (Came noted) noted.frame.id fresh))) (kept_behind setup fails s (Came noted) i (s.stream i))) same
      (alike_through _ (kept_behind setup fails told (Came noted) noted.frame.id fresh) _ (slot_alike (kept_behind setup fails told (Came noted) noted.frame.id fresh))
      (alike_itself _ _ (stream_right (Came noted) noted.frame.id fresh (sym (stand.idle noted.frame.id may)))))

  -- either
  any_row : (noted : Noted) (id : ℕ) → may_open s.drained s.opened noted.frame.id ≡ true → (b : Bool) → (noted.frame.id == id) ≡ b → (b || list_any (λ other. other == id) s.opened) ≡ true
      → IsAlike (if b then kept_in (slot_of (kept_behind setup fails told (Came noted) noted.frame.id fresh)) else find (map (row_behind setup fails told (Came noted)) rows) id) (kept_behind setup fails s (Came noted) id (s.stream id))
  any_row noted id may true is opened = new_row noted id (eqb-true noted.frame.id id is) may
  any_row noted id may false is opened = old_row (Came noted) id opened

  -- What may be opened yet was told nothing: this is shown elsewhere.
  abbrev pub StillIdle : Entry → Type 0
  StillIdle e = (id : ℕ) → may_open (drained_after s.drained e) (opened_after s e) id ≡ true → kept_behind setup fails s e id (s.stream id) ≡ fresh

  same_ids : (e : Entry) → StillIdle e → opened_after s e ≡ s.opened → StandFor (map (row_behind setup fails told e) rows) (after setup fails s e)
  same_ids e idle same = record {
    ids = ids_changed setup fails told e rows ∙ stand.ids ∙ sym same;
    alike = λ id opened. old_row e id (ap (λ (ids : List ℕ). list_any (λ other. other == id) ids) (sym same) ∙ opened);
    idle = idle;
    few = subst (λ (ids : List ℕ). length ids ≤ most_streams) (sym same) stand.few;
  }

  came_stand : (noted : Noted) → StillIdle (Came noted) → (b : Bool) → opens_by s.drained s.opened (completed_in s.block noted.frame) noted.note ≡ b
      → StandFor (if b then row_opened setup fails told (Came noted) noted.frame.id ∷ map (row_behind setup fails told (Came noted)) rows else map (row_behind setup fails told (Came noted)) rows) (after setup fails s (Came noted))
  came_stand noted idle false is = same_ids (Came noted) idle (ap (λ b. if b then noted.frame.id ∷ s.opened else s.opened) is)
  came_stand noted idle true is =
      let now : opened_after s (Came noted) ≡ noted.frame.id ∷ s.opened = ap (λ b. if b then noted.frame.id ∷ s.opened else s.opened) is in
      let may : may_open s.drained s.opened noted.frame.id ≡ true = opens_own s.drained s.opened s.block noted.frame noted.note is in
      let room = ltb-true (length s.opened) most_streams (and_parts (not s.drained) (nat_lt (length s.opened) most_streams) (and_parts (noted.frame.id % 2 == 1 && list_all (λ other. nat_lt other noted.frame.id) s.opened) (not s.drained && nat_lt (length s.opened) most_streams) may).1).1 in record {
        ids = ap (λ (ids : List ℕ). noted.frame.id ∷ ids) (ids_changed setup fails told (Came noted) rows ∙ stand.ids) ∙ sym now;
        alike = λ id opened. any_row noted id may (noted.frame.id == id) refl (ap (λ (ids : List ℕ). list_any (λ other. other == id) ids) (sym now) ∙ opened);
        idle = idle;
        few = subst (λ (ids : List ℕ). length ids ≤ most_streams) (sym now) (omega (arith, room));
      }

  -- The rows behind an entry.
  pub rows_stand : (e : Entry) → StillIdle e → StandFor (rows_after setup fails told e rows) (after setup fails s e)
  rows_stand (Came noted) idle = came_stand noted idle (opens_by s.drained s.opened (completed_in s.block noted.frame) noted.note) refl
  rows_stand (Breached breach) idle = same_ids (Breached breach) idle refl
  rows_stand (Happened event) idle = same_ids (Happened event) idle refl
  rows_stand (Sent noted) idle = same_ids (Sent noted) idle refl
  rows_stand (Did act) idle = same_ids (Did act) idle refl
