-- A frame that brings its stream something, and is no error by the stream's standing, is for a stream that is active or that it
-- may open. So nothing has to be kept of any other id.
use Rattle.std.proofs.Common.{◌≡◌, ℕ, suc, ◌≤◌, ◌%◌, ◌⊎◌, Bool, true, false, not, ◌&&◌, ◌||◌, ◌==◌, nat_lt, if◌then◌else◌, List, [], ◌∷◌, length, Option, Some, None, refl, sym, ◌∙◌, ap, subst, arith, inl, inr}
use Rattle.std.proofs.lemmas.Bool.{and_from, cases_Bool, eqb-true, eqb-false, eq-eqb, lt-ltb, or_parts}
use Rattle.std.specs.Prelude.{is_some}
use Rattle.std.specs.List.{list_any, list_all}
use Rattle.model.specs.Frames.{Frame, data_kind, headers_kind, rst_stream_kind, protocol_error}
use Rattle.model.specs.Decoding.{Partial}
use Rattle.model.specs.StreamStates.{StreamState, Standing, state_of, is_above, standing, unopened, opened_or, opened_verdict, verdict}
use Rattle.model.specs.Limits.{most_streams}
use Rattle.model.specs.StreamStates.Standing.{WholeConnection, Opened, Idle, ServerIdle, Skipped, Beyond}
use Rattle.model.specs.Lifetimes.{may_open}
use Rattle.model.specs.Errors.Fault.{Connection}
use Rattle.model.specs.FrameErrors.{fault_if}
use Rattle.model.specs.ErrorTable.{fault_of, judged, grants}
use Rattle.theory_errors.specs.Summary.{Stream as Kept, Summary}
use Rattle.theory_errors.specs.Judging.{state_in, is_over_in, is_active_in, active_in, standing_in, completed_in, misplaced_in, fault_on_in, fault_by_standing_in}
use Rattle.theory_errors.proofs.Standings.{states, closed_as, verdict_over}

-- the stream is active, or may be opened yet
abbrev pub IsWanted : Summary → ℕ → Type 0
IsWanted s id = (is_active_in id s ≡ true) ⊎ (may_open s.drained s.opened id ≡ true)

-- ---- what a standing tells

-- The standing of an id, by its place: what it tells of the streams that were opened.
abbrev pub Tells : Bool → (ℕ → Kept) → List ℕ → ℕ → Standing → Type 0
Tells drained f ids id WholeConnection = (id == 0) ≡ true
Tells drained f ids id (Opened state) = (list_any (λ other. other == id) ids ≡ true) × (state ≡ state_in (f id))
Tells drained f ids id Idle = may_open drained ids id ≡ true
Tells drained f ids id _ = Unit {0}

pub above_told : (f : ℕ → Kept) (ids : List ℕ) (id : ℕ) → is_above id (states f ids) ≡ list_all (λ other. nat_lt other id) ids
above_told f [] id = refl
above_told f (other ∷ ids) id = ap (λ b. nat_lt other id && b) (above_told f ids id)

pub count_told : (f : ℕ → Kept) (ids : List ℕ) → length (states f ids) ≡ length ids
count_told f [] = refl
count_told f (id ∷ ids) = ap suc (count_told f ids)

-- an id that wasn't opened
unopened_tells : (drained : Bool) (f : ℕ → Kept) (ids : List ℕ) (id : ℕ) → length ids ≤ most_streams → Tells drained f ids id (unopened (list_all (λ other. nat_lt other id) ids) (drained || length ids == most_streams) id)
unopened_tells drained f ids id few = cases (list_all (λ other. nat_lt other id) ids) refl (drained || length ids == most_streams) refl (id % 2 == 0) refl
  where
    cases : (a : Bool) → list_all (λ other. nat_lt other id) ids ≡ a → (b : Bool) → (drained || length ids == most_streams) ≡ b → (c : Bool) → (id % 2 == 0) ≡ c → Tells drained f ids id (if a && b then Beyond else (if c then ServerIdle else (if a then Idle else Skipped)))
    cases true p true q c r = tt
    cases true p false q true r = tt
    cases true p false q false r =
        let odd : (id % 2 == 1) ≡ true = eq-eqb (id % 2) 1 (let even = eqb-false (id % 2) 0 r in omega (arith, even)) in
        let not_full = or_parts drained (length ids == most_streams) q in
        let room : nat_lt (length ids) most_streams ≡ true = lt-ltb (length ids) most_streams (let apart = eqb-false (length ids) most_streams not_full.1 in omega (arith, apart, few)) in
        and_from (id % 2 == 1 && list_all (λ other. nat_lt other id) ids) (not drained && nat_lt (length ids) most_streams) (and_from (id % 2 == 1) (list_all (λ other. nat_lt other id) ids) odd p) (and_from (not drained) (nat_lt (length ids) most_streams) (ap not not_full.0) room)
    cases false p b q true r = tt
    cases false p b q false r = tt

-- an id that is looked up
looked_tells : (drained : Bool) (f : ℕ → Kept) (all ids : List ℕ) (id : ℕ) (otherwise : Standing) → (list_any (λ other. other == id) ids ≡ true → list_any (λ other. other == id) all ≡ true) → Tells drained f all id otherwise → Tells drained f all id (opened_or (state_of id (states f ids)) otherwise)
looked_tells drained f all [] id otherwise sub tells = tells
looked_tells drained f all (other ∷ ids) id otherwise sub tells = cases (other == id) refl (λ rest. looked_tells drained f all ids id otherwise rest tells)
  where
    cases : (b : Bool) → (other == id) ≡ b → ((list_any (λ o. o == id) ids ≡ true → list_any (λ o. o == id) all ≡ true) → Tells drained f all id (opened_or (state_of id (states f ids)) otherwise)) → Tells drained f all id (opened_or (if b then Some (state_in (f other)) else state_of id (states f ids)) otherwise)
    cases true is rest =
        (sub (ap (λ x. x || list_any (λ o. o == id) ids) is), ap (λ (o : ℕ). state_in (f o)) (eqb-true other id is))
    cases false is rest = rest (λ found. sub (ap (λ x. x || list_any (λ o. o == id) ids) is ∙ found))

pub standing_tells : (drained : Bool) (f : ℕ → Kept) (ids : List ℕ) (id : ℕ) → length ids ≤ most_streams → Tells drained f ids id (standing drained (states f ids) id)
standing_tells drained f ids id few = cases (id == 0) refl
  where
    otherwise : Tells drained f ids id (unopened (is_above id (states f ids)) (drained || length (states f ids) == most_streams) id)
    otherwise =
        subst (λ b. Tells drained f ids id (unopened b (drained || length (states f ids) == most_streams) id)) (sym (above_told f ids id))
        (subst (λ n. Tells drained f ids id (unopened (list_all (λ other. nat_lt other id) ids) (drained || n == most_streams) id)) (sym (count_told f ids)) (unopened_tells drained f ids id few))

    cases : (b : Bool) → (id == 0) ≡ b → Tells drained f ids id (if b then WholeConnection else opened_or (state_of id (states f ids)) (unopened (is_above id (states f ids)) (drained || length (states f ids) == most_streams) id))
    cases true is = is
    cases false is = looked_tells drained f ids ids id (unopened (is_above id (states f ids)) (drained || length (states f ids) == most_streams) id) (λ found. found) otherwise

-- ---- what passes

-- neither HEADERS nor DATA pass on a stream that is over
headers_refused : (us : Bool) → fault_of (opened_verdict (closed_as us) headers_kind) ≡ None → ⊥
headers_refused true passes = cc
headers_refused false passes = cc

data_refused : (us : Bool) → fault_of (opened_verdict (closed_as us) data_kind) ≡ None → ⊥
data_refused true passes = cc
data_refused false passes = cc

live_if_passes : (kept : Kept) (kind : ℕ) → ((us : Bool) → fault_of (opened_verdict (closed_as us) kind) ≡ None → ⊥) → fault_of (opened_verdict (state_in kept) kind) ≡ None → is_over_in kept ≡ false
live_if_passes kept kind refused passes = elim (cases_Bool (is_over_in kept)) [
  | inr is ↦ is
  | inl is ↦ absurd (refused kept.reset_by_gateway (sym (ap fault_of (verdict_over kind kept.reset_by_gateway kept.reset_by_client kept.ended_by_client kept.ended_by_gateway is)) ∙ passes))
]

-- an opened stream on which they pass is active
active_if_passes : (s : Summary) (id : ℕ) (state : StreamState) (kind : ℕ) → ((us : Bool) → fault_of (opened_verdict (closed_as us) kind) ≡ None → ⊥) → Tells s.drained s.stream s.opened id (Opened state) → fault_of (opened_verdict state kind) ≡ None → is_active_in id s ≡ true
active_if_passes s id state kind refused tells passes =
    let live : is_over_in (s.stream id) ≡ false = live_if_passes (s.stream id) kind refused (ap (λ (x : StreamState). fault_of (opened_verdict x kind)) (sym tells.1) ∙ passes) in
    and_from (list_any (λ other. other == id) s.opened) (not (is_over_in (s.stream id))) tells.0 (ap not live)

headers_wanted : (s : Summary) (id : ℕ) (n : ℕ) (found : Standing) → Tells s.drained s.stream s.opened id found → fault_of (verdict n found headers_kind) ≡ None → IsWanted s id
headers_wanted s id n WholeConnection tells passes = absurd (cc)
headers_wanted s id n (Opened state) tells passes = inl (active_if_passes s id state headers_kind headers_refused tells passes)
headers_wanted s id n Idle tells passes = inr tells
headers_wanted s id n ServerIdle tells passes = absurd (cc)
headers_wanted s id n Skipped tells passes = absurd (cc)
headers_wanted s id n Beyond tells passes = absurd (cc)

data_wanted : (s : Summary) (id : ℕ) (n : ℕ) (found : Standing) → (id == 0) ≡ false → Tells s.drained s.stream s.opened id found → fault_of (verdict n found data_kind) ≡ None → IsWanted s id
data_wanted s id n WholeConnection stream tells passes = absurd (let no : true ≡ false = sym tells ∙ stream in cc)
data_wanted s id n (Opened state) stream tells passes = inl (active_if_passes s id state data_kind data_refused tells passes)
data_wanted s id n Idle stream tells passes = inr tells
data_wanted s id n ServerIdle stream tells passes = absurd (cc)
data_wanted s id n Skipped stream tells passes = absurd (cc)
data_wanted s id n Beyond stream tells passes = absurd (cc)

-- ---- frames that bring their stream something

-- the frame completes a header block, or is DATA
abbrev pub bears : Summary → Frame → Bool
bears s frame = is_some (completed_in s.block frame) || frame.kind == data_kind

-- Such a frame, that has no fault by its place and by the standing of its stream, is for a wanted stream.
pub wanted : (s : Summary) (frame : Frame) → length s.opened ≤ most_streams → misplaced_in frame ≡ None → fault_by_standing_in s frame ≡ None → bears s frame ≡ true → IsWanted s frame.id
wanted s frame few placed passes bearing = by_block (completed_in s.block frame) refl
  where
    tells : Tells s.drained s.stream s.opened frame.id (standing_in s frame.id)
    tells = standing_tells s.drained s.stream s.opened frame.id few

    by_block : (block : Option Partial) → completed_in s.block frame ≡ block → IsWanted s frame.id
    by_block (Some block) is =
        headers_wanted s frame.id (length (active_in s)) (standing_in s frame.id) tells (ap (λ (b : Option Partial). fault_on_in s frame.id (judged b frame)) (sym is) ∙ passes)
    by_block None is =
        let is_data : (frame.kind == data_kind) ≡ true = ap (λ (b : Option Partial). is_some b || frame.kind == data_kind) (sym is) ∙ bearing in
        let kind : frame.kind ≡ data_kind = eqb-true frame.kind data_kind is_data in
        let judged_so : judged None frame ≡ Some data_kind = ap (λ k. if k == data_kind || k == rst_stream_kind || grants (record frame { kind = k }) then Some k else None) kind in
        let stream : (frame.id == 0) ≡ false = on_stream (frame.id == 0) refl kind in
        data_wanted s frame.id (length (active_in s)) (standing_in s frame.id) stream tells
        (ap (λ (k : Option ℕ). fault_on_in s frame.id k) (sym judged_so) ∙ ap (λ (b : Option Partial). fault_on_in s frame.id (judged b frame)) (sym is) ∙ passes)
      where
        on_stream : (b : Bool) → (frame.id == 0) ≡ b → frame.kind ≡ data_kind → (frame.id == 0) ≡ false
        on_stream false e kind = e
        on_stream true e kind =
            let wrong : misplaced_in frame ≡ Some (Connection protocol_error) =
            ap (λ (k : ℕ). misplaced_in (record frame { kind = k })) kind ∙ ap (λ (b : Bool). fault_if (b || false || false || false) (Connection protocol_error)) e in
            absurd (let no : None ≡ Some (Connection protocol_error) = sym placed ∙ wrong in cc)
