-- The error table doesn't tell views of the streams apart that are alike.
use Rattle.std.proofs.Common.{◌≡◌, ℕ, suc, Bool, true, false, not, ◌&&◌, ◌||◌, ◌==◌, nat_lt, if◌then◌else◌, List, [], ◌∷◌, map, filter, length, Some, refl, sym, ◌∙◌, ap, inl, inr}
use Rattle.std.proofs.lemmas.Bool.{or_left, or_right, eq-eqb, cases_Bool}
use Rattle.std.specs.List.{list_any}
use Rattle.model.specs.StreamStates.{StreamState, OpenedStream, Standing, state_of, is_above, standing, unopened, opened_or, opened_verdict, verdict}
use Rattle.model.specs.Limits.{most_streams}
use Rattle.model.specs.StreamStates.StreamState.{Closed, ResetByPeer, ResetByUs}
use Rattle.model.specs.StreamStates.Standing.{WholeConnection}
use Rattle.model.specs.Lifetimes.{state_by_ends}
use Rattle.theory_errors.specs.Summary.{Stream as Kept}
use Rattle.theory_errors.specs.Judging.{state_in, is_over_in}
use Rattle.model.specs.ErrorTable.{is_idle}
use Rattle.theory_errors.specs.Rows.{IsAlike}

-- these views are alike for each id of a list
abbrev pub AreAlike : (ℕ → Kept) → (ℕ → Kept) → List ℕ → Type 0
AreAlike f g [] = Unit {0}
AreAlike f g (id ∷ ids) = IsAlike (f id) (g id) × AreAlike f g ids

-- what is so for each stream that is in a list is so for the list
pub each_alike : (f g : ℕ → Kept) (ids : List ℕ) → ((id : ℕ) → list_any (λ other. other == id) ids ≡ true → IsAlike (f id) (g id)) → AreAlike f g ids
each_alike f g [] alike = tt
each_alike f g (id ∷ ids) alike =
    (alike id (or_left (id == id) (list_any (λ other. other == id) ids) (eq-eqb id id refl)), each_alike f g ids (λ other is. alike other (or_right (id == other) (list_any (λ o. o == other) ids) is)))

-- ---- states

-- the state of a stream that is over, as far as it matters: the gateway reset it, or it didn't
abbrev pub closed_as : Bool → StreamState
closed_as true = ResetByUs
closed_as false = Closed

pub verdict_over : (kind : ℕ) (us peer client gateway : Bool) → (us || peer || client && gateway) ≡ true → opened_verdict (if us then ResetByUs else (if peer then ResetByPeer else state_by_ends client gateway)) kind ≡ opened_verdict (closed_as us) kind
verdict_over kind true peer client gateway over = refl
verdict_over kind false true client gateway over = refl
verdict_over kind false false true true over = refl
verdict_over kind false false true false over = absurd (let no : false ≡ true = over in cc)
verdict_over kind false false false true over = absurd (let no : false ≡ true = over in cc)
verdict_over kind false false false false over = absurd (let no : false ≡ true = over in cc)

-- what comes of a type is the same on streams that are alike
verdict_alike : (kind : ℕ) (kept told : Kept) → IsAlike kept told → opened_verdict (state_in kept) kind ≡ opened_verdict (state_in told) kind
verdict_alike kind kept told alike = elim (cases_Bool (is_over_in told)) [
  | inr is ↦ ap (λ (k : Kept). opened_verdict (state_in k) kind) (alike.live is)
  | inl is ↦ verdict_over kind kept.reset_by_gateway kept.reset_by_client kept.ended_by_client kept.ended_by_gateway (alike.over ∙ is)
      ∙ ap (λ b. opened_verdict (closed_as b) kind) alike.by_us
      ∙ sym (verdict_over kind told.reset_by_gateway told.reset_by_client told.ended_by_client told.ended_by_gateway is)
]

-- ---- standings

-- the streams of a list of ids, each with its state
abbrev pub states : (ℕ → Kept) → List ℕ → List OpenedStream
states f ids = map (λ id. record { id = id; state = state_in (f id) }) ids

above_same : (f g : ℕ → Kept) (ids : List ℕ) (id : ℕ) → is_above id (states f ids) ≡ is_above id (states g ids)
above_same f g [] id = refl
above_same f g (other ∷ ids) id = ap (λ b. nat_lt other id && b) (above_same f g ids id)

count_same : (f g : ℕ → Kept) (ids : List ℕ) → length (states f ids) ≡ length (states g ids)
count_same f g [] = refl
count_same f g (id ∷ ids) = ap suc (count_same f g ids)

-- a state that is looked up
state_verdict : (n kind : ℕ) (otherwise : Standing) (f g : ℕ → Kept) (ids : List ℕ) → AreAlike f g ids → (id : ℕ) → verdict n (opened_or (state_of id (states f ids)) otherwise) kind ≡ verdict n (opened_or (state_of id (states g ids)) otherwise) kind
state_verdict n kind otherwise f g [] alike id = refl
state_verdict n kind otherwise f g (other ∷ ids) alike id = cases (other == id) (state_verdict n kind otherwise f g ids alike.1 id)
  where
    cases : (b : Bool) → verdict n (opened_or (state_of id (states f ids)) otherwise) kind ≡ verdict n (opened_or (state_of id (states g ids)) otherwise) kind → verdict n (opened_or (if b then Some (state_in (f other)) else state_of id (states f ids)) otherwise) kind ≡ verdict n (opened_or (if b then Some (state_in (g other)) else state_of id (states g ids)) otherwise) kind
    cases true rest = verdict_alike kind (f other) (g other) alike.0
    cases false rest = rest

state_idle : (otherwise : Standing) (f g : ℕ → Kept) (ids : List ℕ) (id : ℕ) → is_idle (opened_or (state_of id (states f ids)) otherwise) ≡ is_idle (opened_or (state_of id (states g ids)) otherwise)
state_idle otherwise f g [] id = refl
state_idle otherwise f g (other ∷ ids) id = cases (other == id) (state_idle otherwise f g ids id)
  where
    cases : (b : Bool) → is_idle (opened_or (state_of id (states f ids)) otherwise) ≡ is_idle (opened_or (state_of id (states g ids)) otherwise) → is_idle (opened_or (if b then Some (state_in (f other)) else state_of id (states f ids)) otherwise) ≡ is_idle (opened_or (if b then Some (state_in (g other)) else state_of id (states g ids)) otherwise)
    cases true rest = refl
    cases false rest = rest

-- what stands for an id that wasn't opened
unopened_same : (drained : Bool) (f g : ℕ → Kept) (ids : List ℕ) (id : ℕ) → unopened (is_above id (states f ids)) (drained || length (states f ids) == most_streams) id ≡ unopened (is_above id (states g ids)) (drained || length (states g ids) == most_streams) id
unopened_same drained f g ids id =
    ap (λ b. unopened b (drained || length (states f ids) == most_streams) id) (above_same f g ids id)
    ∙ ap (λ n. unopened (is_above id (states g ids)) (drained || n == most_streams) id) (count_same f g ids)

pub standing_verdict : (drained : Bool) (n kind : ℕ) (f g : ℕ → Kept) (ids : List ℕ) → AreAlike f g ids → (id : ℕ) → verdict n (standing drained (states f ids) id) kind ≡ verdict n (standing drained (states g ids) id) kind
standing_verdict drained n kind f g ids alike id = cases (id == 0)
  where
    cases : (b : Bool) → verdict n (if b then WholeConnection else opened_or (state_of id (states f ids)) (unopened (is_above id (states f ids)) (drained || length (states f ids) == most_streams) id)) kind
        ≡ verdict n (if b then WholeConnection else opened_or (state_of id (states g ids)) (unopened (is_above id (states g ids)) (drained || length (states g ids) == most_streams) id)) kind
    cases true = refl
    cases false =
        ap (λ (other : Standing). verdict n (opened_or (state_of id (states f ids)) other) kind) (unopened_same drained f g ids id)
        ∙ state_verdict n kind (unopened (is_above id (states g ids)) (drained || length (states g ids) == most_streams) id) f g ids alike id

pub standing_idle : (drained : Bool) (f g : ℕ → Kept) (ids : List ℕ) (id : ℕ) → is_idle (standing drained (states f ids) id) ≡ is_idle (standing drained (states g ids) id)
standing_idle drained f g ids id = cases (id == 0)
  where
    cases : (b : Bool) → is_idle (if b then WholeConnection else opened_or (state_of id (states f ids)) (unopened (is_above id (states f ids)) (drained || length (states f ids) == most_streams) id))
        ≡ is_idle (if b then WholeConnection else opened_or (state_of id (states g ids)) (unopened (is_above id (states g ids)) (drained || length (states g ids) == most_streams) id))
    cases true = refl
    cases false =
        ap (λ (other : Standing). is_idle (opened_or (state_of id (states f ids)) other)) (unopened_same drained f g ids id)
        ∙ state_idle (unopened (is_above id (states g ids)) (drained || length (states g ids) == most_streams) id) f g ids id

-- ---- active streams

abbrev pub actives : (ℕ → Kept) → List ℕ → List ℕ
actives f ids = filter (λ id. not (is_over_in (f id))) ids

pub actives_same : (f g : ℕ → Kept) (ids : List ℕ) → AreAlike f g ids → actives f ids ≡ actives g ids
actives_same f g [] alike = refl
actives_same f g (id ∷ ids) alike =
    ap (λ b. if not b then id ∷ actives f ids else actives f ids) alike.0.over
    ∙ ap (λ (rest : List ℕ). if not (is_over_in (g id)) then id ∷ rest else rest) (actives_same f g ids alike.1)

-- a test of the active streams
pub any_active_same : (test : Kept → Bool) (f g : ℕ → Kept) (ids : List ℕ) → AreAlike f g ids → list_any (λ id. test (f id)) (actives f ids) ≡ list_any (λ id. test (g id)) (actives g ids)
any_active_same test f g [] alike = refl
any_active_same test f g (id ∷ ids) alike =
    ap (λ b. list_any (λ other. test (f other)) (if not b then id ∷ actives f ids else actives f ids)) alike.0.over ∙ cases (is_over_in (g id)) refl (any_active_same test f g ids alike.1)
  where
    cases : (b : Bool) → is_over_in (g id) ≡ b → list_any (λ other. test (f other)) (actives f ids) ≡ list_any (λ other. test (g other)) (actives g ids)
        → list_any (λ other. test (f other)) (if not b then id ∷ actives f ids else actives f ids) ≡ list_any (λ other. test (g other)) (if not b then id ∷ actives g ids else actives g ids)
    cases true is rest = rest
    cases false is rest = ap (λ (k : Kept). test k || list_any (λ other. test (f other)) (actives f ids)) (alike.0.live is) ∙ ap (λ b. test (g id) || b) rest
