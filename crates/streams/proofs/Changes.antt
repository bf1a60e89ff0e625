-- What changes entries and records, and the rows that they tell.
use Rattle.std.proofs.Common.{◌≡◌, ℕ, ◌+◌, ◌<◌, ◌==◌, if◌then◌else◌, List, [], ◌∷◌, length, set, map, true, false, Bool, Some, None, refl, sym, ap, ◌∙◌, subst, inl, inr, arith, cond}
use Rattle.std.specs.Prelude.{Option, IfSome, is_some, nat_lt, reverse}
use Rattle.std.specs.List.{list_all}
use Rattle.std.proofs.lemmas.Bool.{cases_lt, cases_eq, eq-eqb, ne_eqb}
use Rattle.std.proofs.lemmas.List.{length-set, get_or-set_same, get_or-set_other, get_or_past}
use Rattle.std.proofs.lemmas.List.Sums.{sum_by-set}
use Rattle.slab.specs.Slab.{Slab, with_value}
use Rattle.theory_errors.specs.Summary.{Stream as Kept}
use Rattle.theory_errors.specs.Rows as rows
use Rattle.theory_errors.specs.Rows.{Row, find, ids_of}
use Rattle.theory_errors.specs.Tidy.{IsTidy, IsRow, AreKept}
use Rattle.streams.specs.declared.entries.StreamEntry.{StreamEntry}
use Rattle.streams.specs.declared.entries.Slot.{Slot}
use Rattle.streams.specs.declared.entries.Slot.TheVariants.{Live, Over}
use Rattle.streams.specs.declared.records.StreamRecord.{StreamRecord}
use Rattle.streams.specs.Asked.{with_slot, changed, IsLive}
use Rattle.streams.specs.Records.{record_at, slot_with, slot_in, row_in, rows_in, absent, at, id_at, IsAt, IsHeld, is_live, count_records, count_live, AreHeld}
use Rattle.streams.proofs.Lists.{map-reverse, map-map, mapped_same}
use Rattle.streams.proofs.Searches.{only_one}
use Rattle.streams.proofs.Asked.{live_here, tidy_at}

-- ---- rows of which one changes

-- a row that has the slot, and one of another stream
pub slot_given : (id : ℕ) (slot : rows.Slot) (row : Row) → row.id ≡ id → with_slot id slot row ≡ record { id = row.id; slot = slot }
slot_given id slot row same = ap (λ b. if b then record { id = row.id; slot = slot } else row) (eq-eqb row.id id same)

pub slot_left : (id : ℕ) (slot : rows.Slot) (row : Row) → (row.id ≡ id → ⊥) → with_slot id slot row ≡ row
slot_left id slot row apart = ap (λ b. if b then record { id = row.id; slot = slot } else row) (ne_eqb row.id id apart)

pub same_id : (id : ℕ) (slot : rows.Slot) (row : Row) → (with_slot id slot row).id ≡ row.id
same_id id slot row = elim (row.id == id) as (λ b. (if b then record { id = row.id; slot = slot } else row).id ≡ row.id) [ true ↦ refl | false ↦ refl ]

pub same_ids : (id : ℕ) (slot : rows.Slot) (all : List Row) → ids_of (changed id slot all) ≡ ids_of all
same_ids id slot [] = refl
same_ids id slot (row ∷ all) = ap (λ n. n ∷ ids_of (changed id slot all)) (same_id id slot row) ∙ ap (λ ns. row.id ∷ ns) (same_ids id slot all)

-- the rows hold what they should, where the new slot does
pub kept_changed : (id : ℕ) (slot : rows.Slot) (all : List Row) → IsTidy slot → AreKept all → AreKept (changed id slot all)
kept_changed id slot [] tidy kept = tt
kept_changed id slot (row ∷ all) tidy kept = (
  elim (row.id == id) as (λ b. IsRow (if b then record { id = row.id; slot = slot } else row)) [ true ↦ record { tidy = tidy; of_stream = kept.0.of_stream } | false ↦ kept.0 ],
  ap (λ (ids : List ℕ). list_all (λ other. nat_lt other (with_slot id slot row).id) ids) (same_ids id slot all)
      ∙ ap (λ n. list_all (λ other. nat_lt other n) (ids_of all)) (same_id id slot row)
      ∙ kept.1,
  kept_changed id slot all tidy kept.2,
)

-- entries and records that tell the rows where one changes
rows_are : (es es' : List StreamEntry) (rs rs' : List (Option StreamRecord)) (id : ℕ) (slot : rows.Slot) → length es' ≡ length es → ((i : ℕ) → i < length es' → row_in rs' (at es' i) ≡ with_slot id slot (row_in rs (at es i))) → rows_in es' rs' ≡ changed id slot (rows_in es rs)
rows_are es es' rs rs' id slot same each =
    ap reverse (mapped_same (row_in rs') (λ (e : StreamEntry). with_slot id slot (row_in rs e)) es' es absent absent same each ∙ sym (map-map (row_in rs) (with_slot id slot) es))
    ∙ sym (map-reverse (with_slot id slot) (map (row_in rs) es))

-- ---- an active stream, with its record

pub record IsHere (es : List StreamEntry) (rs : List (Option StreamRecord)) (id place key : ℕ) (r : StreamRecord) : Type 0 where
  pub is : IsAt es id place
  pub slot : (at es place).slot ≡ Live key
  pub there : record_at rs key ≡ Some r
  pub own : r.id ≡ id

-- there is a record at a key only within the list
pub key_within : (rs : List (Option StreamRecord)) (key : ℕ) (r : StreamRecord) → record_at rs key ≡ Some r → key < length rs
key_within rs key r there = elim (cases_lt key (length rs)) [ inl is ↦ is | inr past ↦ absurd (let no : None ≡ Some r = sym (get_or_past rs key None past) ∙ there in cc) ]

module _ (es : List StreamEntry) (rs : List (Option StreamRecord)) (h : AreHeld es rs) (id place key : ℕ) (r : StreamRecord) (here : IsHere es rs id place key r) where
  -- the record at its key has another id than the streams at other places
  other_key : (i other : ℕ) → i < length es → (i ≡ place → ⊥) → (at es i).slot ≡ Live other → IsHeld rs (id_at es i) (at es i).slot → other ≡ key → ⊥
  other_key i other lt apart slot held same =
      let there : IsHeld rs (id_at es i) (Live other) = subst (λ (s : Slot). IsHeld rs (id_at es i) s) slot held in
      let one : Some there.0 ≡ Some r = sym there.1 ∙ ap (record_at rs) same ∙ here.there in
      let same_record : there.0.id ≡ r.id = ap (λ (o : Option StreamRecord). id_or o) one in
      apart (only_one es id place i h.rising here.is lt (sym there.2 ∙ same_record ∙ here.own))
    where
      id_or : Option StreamRecord → ℕ
      id_or (Some x) = x.id
      id_or None = 0

  -- another's slot tells the same, whatever the record at the key becomes
  other_slot : (new : Option StreamRecord) (i : ℕ) → i < length es → (i ≡ place → ⊥) → (s : Slot) → (at es i).slot ≡ s → slot_in (set rs key new) s ≡ slot_in rs s
  other_slot new i lt apart (Live other) slot = ap slot_with (get_or-set_other rs key other new None (other_key i other lt apart slot (h.held i lt)))
  other_slot new i lt apart (Over by_us) slot = refl

  -- and another is held as it was
  other_held : (new : Option StreamRecord) (i : ℕ) → i < length es → (i ≡ place → ⊥) → (s : Slot) → (at es i).slot ≡ s → IsHeld rs (id_at es i) s → IsHeld (set rs key new) (id_at es i) s
  other_held new i lt apart (Live other) slot held = (held.0, get_or-set_other rs key other new None (other_key i other lt apart slot (h.held i lt)) ∙ held.1, held.2)
  other_held new i lt apart (Over by_us) slot held = tt

  -- the number of records where that at the key becomes another, or none
  counted_at : (new : Option StreamRecord) → count_records (set rs key new) + 1 ≡ count_records rs + cond (is_some new) 1 0
  counted_at new =
      let one : Option StreamRecord → ℕ = λ o. cond (is_some o) 1 0 in
      let was : one (record_at rs key) ≡ 1 = ap one here.there in
      omega (arith, sum_by-set one rs key new None (key_within rs key r here.there), was)

  -- ---- its record changes
  module _ (live : Kept) (tidy : IsTidy (rows.Slot.Live live)) where
    -- its new record
    abbrev next : StreamRecord
    next = record r { live = live }

    now_there : record_at (set rs key (Some next)) key ≡ Some next
    now_there = get_or-set_same rs key (Some next) None (key_within rs key r here.there)

    -- as many records as before
    as_many : count_records (set rs key (Some next)) ≡ count_records rs
    as_many = omega (arith, counted_at (Some next))

    pub live_rows : rows_in es (set rs key (Some next)) ≡ changed id (rows.Slot.Live live) (rows_in es rs)
    live_rows = rows_are es es rs (set rs key (Some next)) id (rows.Slot.Live live) refl (λ i lt. elim (cases_eq i place) [
      | inl same ↦
          let its : id_at es i ≡ id = ap (id_at es) same ∙ here.is.has_id in
          let slot : (at es i).slot ≡ Live key = ap (λ (k : ℕ). (at es k).slot) same ∙ here.slot in
          ap (λ (s : Slot). record { id = id_at es i; slot = slot_in (set rs key (Some next)) s }) slot
          ∙ ap (λ (o : Option StreamRecord). record { id = id_at es i; slot = slot_with o }) now_there
          ∙ sym (slot_given id (rows.Slot.Live live) (row_in rs (at es i)) its)
      | inr apart ↦
          ap (λ (s : rows.Slot). record { id = id_at es i; slot = s }) (other_slot (Some next) i lt apart (at es i).slot refl)
          ∙ sym (slot_left id (rows.Slot.Live live) (row_in rs (at es i)) (λ same. apart (only_one es id place i h.rising here.is lt same)))
    ])

    pub live_held : AreHeld es (set rs key (Some next))
    live_held = record {
      rising = h.rising;
      few = h.few;
      kept = subst AreKept (sym live_rows) (kept_changed id (rows.Slot.Live live) (rows_in es rs) tidy h.kept);
      held = λ i lt. elim (cases_eq i place) [
        | inl same ↦
            let its : id_at es i ≡ id = ap (id_at es) same ∙ here.is.has_id in
            let slot : (at es i).slot ≡ Live key = ap (λ (k : ℕ). (at es k).slot) same ∙ here.slot in
            subst (λ (s : Slot). IsHeld (set rs key (Some next)) (id_at es i) s) (sym slot) (next, now_there, here.own ∙ sym its)
        | inr apart ↦ other_held (Some next) i lt apart (at es i).slot refl (h.held i lt)
      ];
      owned = λ other x there. elim (cases_eq other key) [
        | inl same ↦
            let one : Some next ≡ Some x = sym now_there ∙ ap (record_at (set rs key (Some next))) (sym same) ∙ there in
            (place, record { within = here.is.within; has_key = here.slot ∙ ap Live (sym same); has_id = here.is.has_id ∙ sym here.own ∙ ap (λ (o : Option StreamRecord). id_or o) one })
        | inr apart ↦ h.owned other x (sym (get_or-set_other rs key other (Some next) None apart) ∙ there)
      ];
      counted = as_many ∙ h.counted;
    }
      where
        id_or : Option StreamRecord → ℕ
        id_or (Some x) = x.id
        id_or None = 0

  -- ---- it is over
  module _ (by_us : Bool) where
    -- its entry behind that
    abbrev done : StreamEntry
    done = record { id = id; slot = Over by_us }

    at_place : at (set es place done) place ≡ done
    at_place = get_or-set_same es place done absent here.is.within

    elsewhere : (i : ℕ) → (i ≡ place → ⊥) → at (set es place done) i ≡ at es i
    elsewhere i apart = get_or-set_other es place i done absent apart

    same_id_at : (i : ℕ) → id_at (set es place done) i ≡ id_at es i
    same_id_at i = elim (cases_eq i place) [
      | inl same ↦ ap (λ (k : ℕ). id_at (set es place done) k) same ∙ ap (λ (e : StreamEntry). e.id) at_place ∙ sym here.is.has_id ∙ ap (id_at es) (sym same)
      | inr apart ↦ ap (λ (e : StreamEntry). e.id) (elsewhere i apart)
    ]

    pub over_rows : rows_in (set es place done) (set rs key None) ≡ changed id (rows.Slot.Over by_us) (rows_in es rs)
    over_rows = rows_are es (set es place done) rs (set rs key None) id (rows.Slot.Over by_us) (length-set es place done) (λ i within. elim (cases_eq i place) [
      | inl same ↦
          let its : id_at es i ≡ id = ap (id_at es) same ∙ here.is.has_id in
          ap (λ (k : ℕ). row_in (set rs key None) (at (set es place done) k)) same
          ∙ ap (row_in (set rs key None)) at_place
          ∙ ap (λ (k : ℕ). record { id = k; slot = rows.Slot.Over by_us }) (sym its)
          ∙ sym (slot_given id (rows.Slot.Over by_us) (row_in rs (at es i)) its)
      | inr apart ↦
          let lt : i < length es = omega (arith, within, length-set es place done) in
          ap (row_in (set rs key None)) (elsewhere i apart)
          ∙ ap (λ (s : rows.Slot). record { id = id_at es i; slot = s }) (other_slot None i lt apart (at es i).slot refl)
          ∙ sym (slot_left id (rows.Slot.Over by_us) (row_in rs (at es i)) (λ same. apart (only_one es id place i h.rising here.is lt same)))
    ])

    -- one record less
    record_less : count_records (set rs key None) + 1 ≡ count_records rs
    record_less = omega (arith, counted_at None)

    -- one active stream less
    pub one_less : count_live (set es place done) + 1 ≡ count_live es
    one_less =
        let one : StreamEntry → ℕ = λ e. cond (is_live e.slot) 1 0 in
        let was : one (at es place) ≡ 1 = ap (λ (s : Slot). cond (is_live s) 1 0) here.slot in
        omega (arith, sum_by-set one es place done absent here.is.within, was)

    pub over_held : AreHeld (set es place done) (set rs key None)
    over_held = record {
      rising = λ i j lt within. omega (arith, same_id_at i, same_id_at j, h.rising i j lt (omega (arith, within, length-set es place done)));
      few = omega (arith, length-set es place done, h.few);
      kept = subst AreKept (sym over_rows) (kept_changed id (rows.Slot.Over by_us) (rows_in es rs) tt h.kept);
      held = λ i within. elim (cases_eq i place) [
        | inl same ↦ subst (λ (e : StreamEntry). IsHeld (set rs key None) e.id e.slot) (sym (ap (at (set es place done)) same ∙ at_place)) tt
        | inr apart ↦
            let lt : i < length es = omega (arith, within, length-set es place done) in
            subst (λ (e : StreamEntry). IsHeld (set rs key None) e.id e.slot) (sym (elsewhere i apart)) (other_held None i lt apart (at es i).slot refl (h.held i lt))
      ];
      owned = λ other x there. elim (cases_eq other key) [
        | inl same ↦ absurd (let no : None ≡ Some x = sym (get_or-set_same rs key None None (key_within rs key r here.there)) ∙ ap (record_at (set rs key None)) (sym same) ∙ there in cc)
        | inr apart ↦
            let own = h.owned other x (sym (get_or-set_other rs key other None None apart) ∙ there) in
            let moved : own.0 ≡ place → ⊥ = λ same. apart (same_key other key (sym own.1.has_key ∙ ap (λ (k : ℕ). (at es k).slot) same ∙ here.slot)) in (
              own.0,
              record {
                within = omega (arith, own.1.within, length-set es place done);
                has_key = ap (λ (e : StreamEntry). e.slot) (elsewhere own.0 moved) ∙ own.1.has_key;
                has_id = same_id_at own.0 ∙ own.1.has_id;
              },
            )
      ];
      counted = omega (arith, record_less, one_less, h.counted);
    }
      where
        same_key : (a b : ℕ) → Live a ≡ Live b → a ≡ b
        same_key a b same = ap key_or same
          where
            key_or : Slot → ℕ
            key_or (Live k) = k
            key_or (Over by) = 0

-- ---- what was read

-- an entry of an active stream has its record
pub here_at : (es : List StreamEntry) (rs : List (Option StreamRecord)) (id place key : ℕ) → AreHeld es rs → IsAt es id place → (at es place).slot ≡ Live key → (r : StreamRecord) × IsHere es rs id place key r
here_at es rs id place key h is slot =
    let held : IsHeld rs (id_at es place) (Live key) = subst (λ (s : Slot). IsHeld rs (id_at es place) s) slot (h.held place is.within) in
    (held.0, record { is = is; slot = slot; there = held.1; own = held.2 ∙ is.has_id })

-- and that is what is kept of it
pub kept_here : (es : List StreamEntry) (rs : List (Option StreamRecord)) (id place key : ℕ) (r : StreamRecord) → AreHeld es rs → IsHere es rs id place key r → IsLive (rows_in es rs) id r.live
kept_here es rs id place key r h here =
    live_here es rs id place h.kept here.is key r.live here.slot (here.there ∙ ap (λ (k : ℕ). Some (record { id = k; live = r.live })) here.own)

-- it holds what it should
pub live_tidy : (es : List StreamEntry) (rs : List (Option StreamRecord)) (id place key : ℕ) (r : StreamRecord) → AreHeld es rs → IsHere es rs id place key r → IsTidy (rows.Slot.Live r.live)
live_tidy es rs id place key r h here =
    subst IsTidy (ap (slot_in rs) here.slot ∙ ap slot_with here.there) (tidy_at es rs place h.kept here.is.within)

-- ---- a record that was changed at its key

module _ (es : List StreamEntry) (old new : Slab StreamRecord) (h : AreHeld es old.slots) (id place key : ℕ) (r : StreamRecord) (here : IsHere es old.slots id place key r) (change : Kept → Kept) (tidy : IsTidy (rows.Slot.Live (change r.live))) (is : IfSome (record_at old.slots key) (λ (x : StreamRecord). new ≡ with_value old key (record x { live = change x.live }))) where
  -- its slot behind that
  written : new.slots ≡ set old.slots key (Some (record r { live = change r.live }))
  written = ap (λ (s : Slab StreamRecord). s.slots) (subst (λ (o : Option StreamRecord). IfSome o (λ (x : StreamRecord). new ≡ with_value old key (record x { live = change x.live }))) here.there is)

  pub changed_held : AreHeld es new.slots
  changed_held = subst (AreHeld es) (sym written) (live_held es old.slots h id place key r here (change r.live) tidy)

  pub changed_rows : rows_in es new.slots ≡ changed id (rows.Slot.Live (change (find (rows_in es old.slots) id))) (rows_in es old.slots)
  changed_rows =
      ap (rows_in es) written
      ∙ live_rows es old.slots h id place key r here (change r.live) tidy
      ∙ ap (λ (k : Kept). changed id (rows.Slot.Live (change k)) (rows_in es old.slots)) (sym (kept_here es old.slots id place key r h here).found)

-- what is active is
pub not_both : {A : Type 0} (b : Bool) → b ≡ true → b ≡ false → A
not_both b is none = absurd (let clash : true ≡ false = sym is ∙ none in cc)
