-- What is left of streams behind frames that were sent.
use Rattle.std.proofs.Common.{◌≡◌, ℕ, Bool, true, false, ◌&&◌, ◌||◌, ◌==◌, if◌then◌else◌, List, [], ◌∷◌, map, None, refl, sym, ◌∙◌, ap, inl, inr}
use Rattle.std.proofs.lemmas.Bool.{cases_eq, ne_eqb, eq-eqb}
use Rattle.std.specs.Prelude.{pos, ◌+ℤ◌, ◌-ℤ◌, nat_lt}
use Rattle.std.specs.List.{list_any, AllByRecursion}
use Rattle.std.proofs.lemmas.List.Elements.{recursion_from_All}
use Rattle.model.specs.Frames.{rst_stream_kind}
use Rattle.model.specs.Setup.{Setup}
use Rattle.model.specs.Tapes.{Noted, Entry}
use Rattle.model.specs.Tapes.Entry.{Sent}
use Rattle.model.specs.Streams.{frame_items}
use Rattle.model.specs.Lifetimes.{ends_by}
use Rattle.model.specs.WindowsOnTape.{data_length, is_on}
use Rattle.model.specs.Courses.{is_final}
use Rattle.theory_errors.specs.Summary.{Stream as Kept, Summary}
use Rattle.theory_errors.specs.Judging.{completed_in, fault_for}
use Rattle.theory_errors.specs.After.{grant, stream_from}
use Rattle.theory_errors.specs.Rows.{Row, Slot, kept_in, slot_of, slot_behind, row_behind}
use Rattle.theory_errors.specs.Rows.Slot.{Live, Over}
use Rattle.theory_errors.specs.Tidy.{IsSteady, IsTidy, IsRow, AreKept, IsElsewhere}
use Rattle.theory_errors.proofs.Elsewhere.{kept_same, course_same, row_stays}
use Rattle.theory_errors.proofs.Idle.{no_cause_if}
use Rattle.streams.specs.Asked.{with_slot, changed}
use Rattle.streams.proofs.Searches.{IsFound, all_found}
use Rattle.streams.proofs.Changes.{slot_left, slot_given}

-- ---- rows

-- the course in a slot that holds what it should is steady
pub steady_in : (slot : Slot) → IsTidy slot → IsSteady (kept_in slot).outline
steady_in (Live kept) tidy = tidy.1
steady_in (Over by_us) tidy = λ none. refl

-- Each row stays but that of one stream, of which this is known.
pub one_changes : (setup : Setup) (fails : Bool) (s : Summary) (e : Entry) (id : ℕ) (slot : Slot) (rows : List Row) → AreKept rows
    → ((row : Row) → IsRow row → IsFound rows row → row.id ≡ id → slot_behind setup fails s e row.id row.slot ≡ slot)
    → ((row : Row) → (row.id ≡ id → ⊥) → IsElsewhere s row.id e (fault_for (kept_in row.slot).outline s e))
    → map (row_behind setup fails s e) rows ≡ changed id slot rows
one_changes setup fails s e id slot rows kept own others = each rows kept (recursion_from_All (IsFound rows) rows (all_found rows kept))
  where
    one : (row : Row) → IsRow row → IsFound rows row → row_behind setup fails s e row ≡ with_slot id slot row
    one row is found = elim (cases_eq row.id id) [
      | inl same ↦ ap (λ (x : Slot). record { id = row.id; slot = x }) (own row is found same) ∙ sym (slot_given id slot row same)
      | inr apart ↦ row_stays setup fails s e row is (others row apart) ∙ sym (slot_left id slot row apart)
    ]

    each : (rs : List Row) → AreKept rs → AllByRecursion (IsFound rows) rs → map (row_behind setup fails s e) rs ≡ changed id slot rs
    each [] kept found = refl
    each (row ∷ rs) kept found = ap (λ (r : Row). r ∷ map (row_behind setup fails s e) rs) (one row kept.0 found.0) ∙ ap (λ (xs : List Row). with_slot id slot row ∷ xs) (each rs kept.2 found.1)

-- a frame is about no other stream than its own
pub sent_elsewhere : (s : Summary) (noted : Noted) (row : Row) → (row.id ≡ noted.frame.id → ⊥) → IsElsewhere s row.id (Sent noted) (fault_for (kept_in row.slot).outline s (Sent noted))
sent_elsewhere s noted row apart = (ne_eqb noted.frame.id row.id (λ same. apart (sym same)), refl)

-- ---- a frame that doesn't reset its stream

-- What it brings its stream: whether it ends it, whether it has a final head, and what is sent of the stream's window and given back to it.
pub record Brings (s : Summary) (noted : Noted) (ends is_final_head : Bool) (sent back : ℕ) : Type 0 where
  pub no_reset : (noted.frame.kind == rst_stream_kind) ≡ false
  pub ended : ends_by (completed_in s.block_out noted.frame) noted.frame ≡ ends
  pub head : list_any is_final (frame_items (completed_in s.block_out noted.frame) noted) ≡ is_final_head
  pub exhausted : data_length (is_on noted.frame.id) noted.frame ≡ sent
  pub given : grant noted.frame.id noted.frame ≡ back

module _ (setup : Setup) (s : Summary) (noted : Noted) (ends is_final_head : Bool) (sent back : ℕ) (brings : Brings s noted ends is_final_head sent back) where
  -- a stream with what it brings
  abbrev pub brought : Kept → Kept
  brought kept = record kept {
    ended_by_gateway = ends || kept.ended_by_gateway;
    balance = kept.balance -ℤ pos sent;
    room = kept.room +ℤ pos back;
    head_out = kept.head_out || is_final_head;
  }

  -- that is what is left of its stream
  own_behind : (kept : Kept) → IsSteady kept.outline → stream_from setup false s (Sent noted) noted.frame.id kept None ≡ brought kept
  own_behind kept is =
      let id : ℕ = noted.frame.id in
      let own : (id == id) ≡ true = eq-eqb id id refl in
      kept_same (brought kept) (stream_from setup false s (Sent noted) id kept None)
      refl
      (ap (λ x. x && ends_by (completed_in s.block_out noted.frame) noted.frame || kept.ended_by_gateway) own ∙ ap (λ x. x || kept.ended_by_gateway) brings.ended)
      refl
      (ap (λ x. x && id == id || kept.reset_by_gateway) brings.no_reset)
      (ap (λ n. kept.balance -ℤ pos n) brings.exhausted)
      (ap (λ n. kept.room +ℤ pos n) brings.given)
      (ap (λ x. kept.head_out || list_any is_final (if x then frame_items (completed_in s.block_out noted.frame) noted else [])) own ∙ ap (λ x. kept.head_out || x) brings.head)
      (course_same setup false s (Sent noted) id kept None is (no_cause_if (0 == id && nat_lt 0 id) None refl) (ap (λ x. x && id == id || false) brings.no_reset) refl)

  pub own_slot : (id : ℕ) → id ≡ noted.frame.id → (slot : Slot) → IsTidy slot → (kept : Kept) → kept ≡ kept_in slot → slot_behind setup false s (Sent noted) id slot ≡ slot_of (brought kept)
  own_slot id same slot tidy kept found =
      ap (λ n. slot_of (stream_from setup false s (Sent noted) n (kept_in slot) None)) same
      ∙ ap slot_of (own_behind (kept_in slot) (steady_in slot tidy))
      ∙ ap (λ (k : Kept). slot_of (brought k)) (sym found)
