-- Rows where the stream of a whole header block is active or may be opened: which those are, and what changes of them.
use Rattle.std.proofs.Common.{◌≡◌, ℕ, ◌<◌, Bool, true, false, not, ◌&&◌, ◌||◌, ◌==◌, ◌%◌, nat_lt, if◌then◌else◌, List, [], ◌∷◌, length, Some, None, refl, sym, ◌∙◌, ap, subst, inl, inr, arith}
use Rattle.std.proofs.lemmas.Bool.{and_right, and_parts, and_from, or_parts, cases_Bool, eq-eqb, eqb-false, lt-ltb, ltb-true}
use Rattle.std.proofs.lemmas.List.{length-map}
use Rattle.std.proofs.Math.Bool.{or-false}
use Rattle.std.specs.Prelude.{ℤ, ◌⊎◌}
use Rattle.std.specs.List.{list_any, list_all}
use Rattle.model.specs.Frames.{refused_stream}
use Rattle.model.specs.Errors.Fault.{Connection, Stream, Discarded}
use Rattle.model.specs.StreamStates.{Standing, verdict, opened_verdict, idle_verdict, is_above}
use Rattle.model.specs.Limits.{most_streams, most_active}
use Rattle.model.specs.StreamStates.StreamState.{ResetByPeer, ResetByUs}
use Rattle.model.specs.StreamStates.Verdict.{Passes, Opens, Fails}
use Rattle.model.specs.Lifetimes.{state_by_ends, may_open}
use Rattle.model.specs.ErrorTable.{fault_of, unless_of_stream}
use Rattle.theory_errors.specs.Summary.{Outline, Stream as Kept}
use Rattle.theory_errors.specs.Judging.{is_over_in}
use Rattle.theory_errors.specs.Rows.{Row, Slot, fresh, find, ids_of, slot_of}
use Rattle.theory_errors.specs.Rows.Slot.{Live, Over}
use Rattle.theory_errors.proofs.Elsewhere.{none_less}
use Rattle.theory_errors.proofs.Rows.{find_none}
use Rattle.model.proofs.OpenedLaws.{not_opened, not_zero}
use Rattle.stream_state.specs.Views.{verdict_in}
use Rattle.stream_state.specs.declared.verdicts.Verdict.{Verdict as Answer}
use Rattle.stream_state.specs.declared.verdicts.Verdict.TheVariants as answer
use Rattle.streams.specs.Asked as asked
use Rattle.streams.specs.Asked.{has, is_active, active_in, opened_in, changed, MayOpen, AllowsOpening}
use Rattle.streams.specs.Steps.{taken}
use Rattle.connection_state.specs.Blocks.{placed, kept_so, IsOpenOrIdle}
use Rattle.connection_state.proofs.Standings.{opened_standing, other_standing}

-- ---- on which streams HEADERS are no error of the connection, nor discarded

-- one that isn't over
soft_opened : (a b c d : Bool) → unless_of_stream (fault_of (opened_verdict (if d then ResetByUs else (if c then ResetByPeer else state_by_ends a b)) 1)) ≡ None → fault_of (opened_verdict (if d then ResetByUs else (if c then ResetByPeer else state_by_ends a b)) 1) ≡ Some Discarded ⊎ ((d || c || a && b) ≡ false)
soft_opened a b c true soft = inl refl
soft_opened a b true false soft = absurd (let no : Some (Connection 5) ≡ None = soft in cc)
soft_opened true true false false soft = absurd (let no : Some (Connection 5) ≡ None = soft in cc)
soft_opened true false false false soft = inr refl
soft_opened false true false false soft = inr refl
soft_opened false false false false soft = inr refl

-- one that is idle
soft_unopened : (n : ℕ) (above full even : Bool) → unless_of_stream (fault_of (verdict n (if above && full then Standing.Beyond else (if even then Standing.ServerIdle else (if above then Standing.Idle else Standing.Skipped))) 1)) ≡ None → (above ≡ true) × (full ≡ false) × (even ≡ false)
soft_unopened n true true even soft = absurd (let no : Some Discarded ≡ None = soft in cc)
soft_unopened n true false true soft = absurd (let no : Some (Connection 1) ≡ None = soft in cc)
soft_unopened n true false false soft = (refl, refl, refl)
soft_unopened n false full true soft = absurd (let no : Some (Connection 1) ≡ None = soft in cc)
soft_unopened n false full false soft = absurd (let no : Some (Connection 1) ≡ None = soft in cc)

-- an answer to HEADERS on an idle stream says that it may be opened
opens_so : (rows : List Row) (id n : ℕ) (a : Answer) → verdict_in a ≡ (if nat_lt n most_active then Opens else Fails (Stream refused_stream)) → AllowsOpening a rows id → MayOpen rows id
opens_so rows id n answer.Open is allows = allows
opens_so rows id n (answer.Stream code) is allows = allows (cases (nat_lt n most_active) is)
  where
    cases : (b : Bool) → Fails (Stream code) ≡ (if b then Opens else Fails (Stream refused_stream)) → code ≡ refused_stream
    cases true is = absurd (let no : Fails (Stream code) ≡ Opens = is in cc)
    cases false is = let same : Fails (Stream code) ≡ Fails (Stream refused_stream) = is in cc
opens_so rows id n answer.Pass is allows = absurd (cases (nat_lt n most_active) is)
  where
    cases : (b : Bool) → Passes ≡ (if b then Opens else Fails (Stream refused_stream)) → ⊥
    cases true is = let no : Passes ≡ Opens = is in cc
    cases false is = let no : Passes ≡ Fails (Stream refused_stream) = is in cc
opens_so rows id n answer.Discard is allows = absurd (cases (nat_lt n most_active) is)
  where
    cases : (b : Bool) → Fails Discarded ≡ (if b then Opens else Fails (Stream refused_stream)) → ⊥
    cases true is = let no : Fails Discarded ≡ Opens = is in cc
    cases false is = let no : Fails Discarded ≡ Fails (Stream refused_stream) = is in cc
opens_so rows id n (answer.Connection code) is allows = absurd (cases (nat_lt n most_active) is)
  where
    cases : (b : Bool) → Fails (Connection code) ≡ (if b then Opens else Fails (Stream refused_stream)) → ⊥
    cases true is = let no : Fails (Connection code) ≡ Opens = is in cc
    cases false is = let no : Fails (Connection code) ≡ Fails (Stream refused_stream) = is in cc

-- an odd id above all, which aren't all that are opened, may be opened
may_open_so : (rows : List Row) (id : ℕ) → (id % 2 == 0) ≡ false → MayOpen rows id → may_open false (ids_of rows) id ≡ true
may_open_so rows id even may =
    let odd : (id % 2 == 1) ≡ true = eq-eqb (id % 2) 1 (let apart = eqb-false (id % 2) 0 even in omega (arith, apart)) in
    let room : nat_lt (length (ids_of rows)) most_streams ≡ true = lt-ltb (length (ids_of rows)) most_streams (subst (λ n. n < most_streams) (sym (length-map rows (λ (row : Row). row.id))) may.few) in
    and_from (id % 2 == 1 && list_all (λ other. nat_lt other id) (ids_of rows)) (nat_lt (length (ids_of rows)) most_streams) (and_from (id % 2 == 1) (list_all (λ other. nat_lt other id) (ids_of rows)) odd may.above) room

-- Such a stream is active, or may be opened.
pub wanted_by : (rows : List Row) (id : ℕ) (a : Answer) → (id == 0) ≡ false → verdict_in a ≡ asked.verdict false rows id 1 → AllowsOpening a rows id → unless_of_stream (fault_of (asked.verdict false rows id 1)) ≡ None → (fault_of (asked.verdict false rows id 1) ≡ Some Discarded → ⊥) → IsOpenOrIdle rows id
wanted_by rows id a of_stream is allows soft kept = elim (cases_Bool (has rows id)) [
  | inl there ↦
      let k : Kept = find rows id in
      let st = ap (λ (s : Standing). fault_of (verdict (length (active_in rows)) s 1)) (opened_standing false rows id of_stream there) in
      elim (soft_opened k.ended_by_client k.ended_by_gateway k.reset_by_client k.reset_by_gateway (ap unless_of_stream (sym st) ∙ soft)) [
        | inl discarded ↦ absurd (kept (st ∙ discarded))
        | inr on ↦ inl (and_from (has rows id) (not (is_over_in k)) there (ap not on))
      ]
  | inr none ↦
      let n : ℕ = length (active_in rows) in
      let st = other_standing false rows id of_stream none in
      let parts = soft_unopened n (is_above id (opened_in rows)) (length (opened_in rows) == most_streams) (id % 2 == 0) (ap (λ (s : Standing). unless_of_stream (fault_of (verdict n s 1))) (sym st) ∙ soft) in
      let idle : asked.verdict false rows id 1 ≡ idle_verdict n 1 =
      ap (λ (s : Standing). verdict n s 1) st
      ∙ ap (λ x. verdict n (if x && length (opened_in rows) == most_streams then Standing.Beyond else (if id % 2 == 0 then Standing.ServerIdle else (if x then Standing.Idle else Standing.Skipped))) 1) parts.0
      ∙ ap (λ x. verdict n (if x then Standing.Beyond else (if id % 2 == 0 then Standing.ServerIdle else Standing.Idle)) 1) parts.1
      ∙ ap (λ x. verdict n (if x then Standing.ServerIdle else Standing.Idle) 1) parts.2 in
      inr (may_open_so rows id parts.2 (opens_so rows id n a (is ∙ idle) allows))
]

-- ---- where a stream is placed

-- an active one may not be opened
pub active_closed : (drained : Bool) (rows : List Row) (id : ℕ) → is_active rows id ≡ true → may_open drained (ids_of rows) id ≡ false
active_closed drained rows id active = elim (cases_Bool (may_open drained (ids_of rows) id)) [
  | inl may ↦
      let there = and_parts (has rows id) (not (is_over_in (find rows id))) active in
      absurd (let no : true ≡ false = sym there.0 ∙ not_opened drained (ids_of rows) id may in cc)
  | inr none ↦ none
]

pub placed_active : (rows : List Row) (id : ℕ) (slot : Slot) → is_active rows id ≡ true → placed rows id slot ≡ changed id slot rows
placed_active rows id slot active = ap (λ x. if x then record { id = id; slot = slot } ∷ rows else changed id slot rows) (active_closed false rows id active)

pub placed_idle : (rows : List Row) (id : ℕ) (slot : Slot) → may_open false (ids_of rows) id ≡ true → placed rows id slot ≡ record { id = id; slot = slot } ∷ rows
placed_idle rows id slot may = ap (λ x. if x then record { id = id; slot = slot } ∷ rows else changed id slot rows) may

-- one that isn't active may be opened
pub idle_of : (rows : List Row) (id : ℕ) → IsOpenOrIdle rows id → is_active rows id ≡ false → may_open false (ids_of rows) id ≡ true
idle_of rows id (inl active) idle = absurd (let no : true ≡ false = sym active ∙ idle in cc)
idle_of rows id (inr may) idle = may

pub active_of : (rows : List Row) (id : ℕ) → has rows id ≡ true → is_over_in (find rows id) ≡ false → is_active rows id ≡ true
active_of rows id there on = and_from (has rows id) (not (is_over_in (find rows id))) there (ap not on)

-- it has no row, so nothing is known of it
pub nothing_known : (rows : List Row) (id : ℕ) → may_open false (ids_of rows) id ≡ true → find rows id ≡ fresh
nothing_known rows id may = find_none rows id (not_opened false (ids_of rows) id may)

-- and is opened as `open` asks
pub may_be_opened : (rows : List Row) (id : ℕ) → may_open false (ids_of rows) id ≡ true → MayOpen rows id
may_be_opened rows id may =
    let parts = and_parts (id % 2 == 1 && list_all (λ other. nat_lt other id) (ids_of rows)) (nat_lt (length (ids_of rows)) most_streams) may in
    let both = and_parts (id % 2 == 1) (list_all (λ other. nat_lt other id) (ids_of rows)) parts.0 in
    record {
      of_stream = not_zero false (ids_of rows) id may;
      above = both.1;
      few = subst (λ n. n < most_streams) (length-map rows (λ (row : Row). row.id)) (ltb-true (length (ids_of rows)) most_streams parts.1);
    }

-- ---- what is kept

-- a block takes no octets of a window
pub taken_none : (outline : Outline) (ends : Bool) (kept : Kept) → taken 0 outline ends kept ≡ kept_so kept outline ends
taken_none outline ends kept = ap (λ (room : ℤ). record (kept_so kept outline ends) { room = room }) (none_less kept.room 0 refl)

-- a stream that is opened goes on
pub opened_so : (outline : Outline) (ends : Bool) → slot_of (kept_so fresh outline ends) ≡ Live (record fresh { ended_by_client = ends; outline = outline })
opened_so outline ends =
    ap (λ x. slot_of (record fresh { ended_by_client = x; outline = outline })) (or-false ends)
    ∙ ap (λ x. if x then Over false else Live (record fresh { ended_by_client = ends; outline = outline })) (and_right ends false refl)

-- a slot is changed of the newest row alone, where no other has its id
pub front_changed : (rows : List Row) (id : ℕ) (old new : Slot) → may_open false (ids_of rows) id ≡ true → changed id new (record { id = id; slot = old } ∷ rows) ≡ record { id = id; slot = new } ∷ rows
front_changed rows id old new may =
    ap (λ x. (if x then record { id = id; slot = new } else record { id = id; slot = old }) ∷ changed id new rows) (eq-eqb id id refl)
    ∙ ap (λ (rs : List Row). record { id = id; slot = new } ∷ rs) (none_changed rows (not_opened false (ids_of rows) id may))
  where
    none_changed : (rs : List Row) → has rs id ≡ false → changed id new rs ≡ rs
    none_changed [] none = refl
    none_changed (row ∷ rs) none =
        let parts = or_parts (row.id == id) (list_any (λ other. other == id) (ids_of rs)) none in
        ap (λ x. (if x then record { id = row.id; slot = new } else row) ∷ changed id new rs) parts.0 ∙ ap (λ (xs : List Row). row ∷ xs) (none_changed rs parts.1)

-- the newest row is active, where it is
pub front_active : (rows : List Row) (id : ℕ) (kept : Kept) → is_over_in kept ≡ false → is_active (record { id = id; slot = Live kept } ∷ rows) id ≡ true
front_active rows id kept on =
    let own : (id == id) ≡ true = eq-eqb id id refl in
    active_of (record { id = id; slot = Live kept } ∷ rows) id (ap (λ x. x || has rows id) own) (ap (λ x. is_over_in (if x then kept else find rows id)) own ∙ on)
