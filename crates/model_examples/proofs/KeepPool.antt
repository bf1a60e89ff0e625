-- How many connections are idle, and which one is used or closed: rows of two and of nine connections, and gateways that go wrong there.
use Rattle.std.proofs.Common.{◌≡◌, ℕ, ◌+◌, ◌*◌, ◌≤◌, Bool, true, false, ◌||◌, ◌==◌, List, [], ◌∷◌, refl, sym, ap, ◌∙◌, subst, inl, inr, arith, if◌then◌else◌, length}
use Rattle.std.specs.Prelude.{zero, suc, codes}
use Rattle.std.specs.List.{list_any}
use Rattle.std.proofs.lemmas.Bool.{eq-eqb, ne_eqb}
use Rattle.std.proofs.lemmas.Bool.Decides.{eqb_tells}
use Rattle.model.specs.Tables.{total_size}
use Rattle.model.specs.Logs.Event.{Up, UpFailed}
use Rattle.model.specs.Logs.Act.{Open, ToUp, Close}
use Rattle.model.specs.Setup.Passing.{Whole}
use Rattle.model.specs.Tapes.{Entry}
use Rattle.model.specs.Tapes.Entry.{Happened, Did}
use Rattle.model.specs.Admission.{is_open}
use Rattle.model.specs.Known.{Known}
use Rattle.model.specs.Failures.{MayFail}
use Rattle.model.specs.Idle.{LeavesOpen, IsIdle, AreDistinct, AreIdle, NoneIdle, FewAreIdle, IsOneTooMany}
use Rattle.model.specs.RequestClause.{BeginInTime}
use Rattle.model.specs.ProgressClause.{IsDoneWith}
use Rattle.model.specs.ProgressClause.Reason.{Complete}
use Rattle.model.proofs.AnswerTexts as answer
use Rattle.model.proofs.OfferLemmas.{nothing_complete}
use Rattle.model_examples.proofs.RowTapes.{frame, headed, out, out_headed, get, get_block, next_get_block, begun, ok_two, ok_block, answer_text}
use Rattle.model_examples.proofs.KeepExamples.{by_keeping, getk, exchange, first_got, first_answered, second_came, second_got, second_closed, third_got, kept_on, idle_on, idle, used_again}
use Rattle.model_examples.proofs.KeepRefusals.{two_routes, get_b, get_b_block}

-- ---- connections are opened where none of the route is idle

nothing_heard : (to_head : Bool) → LeavesOpen [] to_head → ⊥
nothing_heard to_head l = nothing_complete false to_head (l.response, l.reads)

-- the first is open, but nothing was heard of its exchange
abbrev pub beside_busy : List Entry
beside_busy = headed (frame 1 5 3 next_get_block) get ∷ first_got

none_idle : NoneIdle by_keeping beside_busy 0
unfolding total_size
none_idle j i route = elim (eqb_tells j 1) [
  | inl same ↦ (let one : IsIdle by_keeping beside_busy 1 = subst (IsIdle by_keeping beside_busy) same.1 i in nothing_heard false one.kept.answered)
  | inr apart ↦ (let clash : false ≡ true = sym (ap (λ b. if b then true else false) apart.0) ∙ i.is_open in cc)
]

none_open : (t : List Entry) → ((j : ℕ) → is_open j t ≡ false) → (route : ℕ) → NoneIdle by_keeping t route
none_open t shut route j i same = let clash : false ≡ true = sym (shut j) ∙ i.is_open in cc

opens_first : BeginInTime by_keeping first_got
unfolding total_size
opens_first = (tt, (record { active = refl; no_cause = refl; goes_on = refl; whole = λ passing. refl }, none_open _ (λ j. refl) 0, tt))

-- so another is opened beside it,
pub opens_beside_busy : BeginInTime by_keeping (Did (Open 2 0) ∷ beside_busy)
unfolding total_size
opens_beside_busy = (record { active = refl; no_cause = refl; goes_on = refl; whole = λ passing. refl }, none_idle, opens_first)

-- and where the one that was idle is closed: all exchanges of the row began in time.
third_came_open : (j : ℕ) → is_open j (headed (frame 1 5 5 next_get_block) get ∷ second_closed) ≡ false
third_came_open j = at (j == 1)
  where
    at : (b : Bool) → (if b then false else (if b then true else false)) ≡ false
    at true = refl
    at false = refl

pub all_in_time : BeginInTime by_keeping third_got
unfolding total_size
all_in_time = (
  tt,
  (
    record { active = refl; no_cause = refl; goes_on = refl; whole = λ passing. refl },
    none_open _ third_came_open 0,
    (used_again, opens_first),
  ),
)

-- An idle connection of another route isn't used.
abbrev pub elsewhere_came : List Entry
elsewhere_came = headed (frame 1 5 3 get_b_block) get_b ∷ first_answered

other_route : NoneIdle two_routes elsewhere_came 1
other_route j i route = elim (eqb_tells 1 j) [
  | inl same ↦ (let clash : 0 ≡ 1 = sym (ap (λ b. if b then 0 else 0) same.0) ∙ route in omega (arith, clash))
  | inr apart ↦ (let clash : 0 ≡ 1 = sym (ap (λ b. if b then 0 else 0) apart.0) ∙ route in omega (arith, clash))
]

pub opens_for_another_route : BeginInTime two_routes (Did (Open 2 1) ∷ elsewhere_came)
unfolding total_size
opens_for_another_route = (
  record { active = refl; no_cause = refl; goes_on = refl; whole = λ passing. refl },
  other_route,
  (tt, (record { active = refl; no_cause = refl; goes_on = refl; whole = λ passing. refl }, λ j i route. (let clash : false ≡ true = i.is_open in cc), tt)),
)

-- ---- what may fail

-- Of the second exchange nothing was heard, so its answer fails with the connection,
pub fails_before : MayFail by_keeping second_got (UpFailed 1)
unfolding total_size
fails_before i = nothing_heard false i.kept.answered

-- and while the connection is idle no answer does.
pub fails_none : MayFail by_keeping second_came (UpFailed 1) → ⊥
fails_none fails = fails idle

-- ---- several connections

-- so many GETs, for each of which a connection is opened
abbrev pub asked : ℕ → List Entry
asked zero = begun
asked (suc n) = Did (ToUp (suc n) getk) ∷ Did (Open (suc n) 0) ∷ headed (frame 1 5 (2 * n + 1) get_block) get ∷ asked n

-- so many are answered, and the client has the responses
abbrev pub answers : ℕ → List Entry → List Entry
answers zero t = t
answers (suc n) t =
    out (frame 0 1 (2 * n + 1) (codes "hi"))
    ∷ out_headed (frame 1 4 (2 * n + 1) ok_block) ok_two
    ∷ Happened (Up (suc n) answer_text)
    ∷ answers n t

-- ---- the least that is idle is used

abbrev pub two_idle : List Entry
two_idle = headed (frame 1 5 5 next_get_block) get ∷ answers 2 (asked 2)

first_of_two : IsIdle by_keeping two_idle 1
unfolding total_size
first_of_two = idle_on Whole two_idle 1 1 refl refl refl refl refl refl refl

-- It uses the newer of two.
pub uses_the_newer : BeginInTime by_keeping (Did (ToUp 2 getk) ∷ two_idle) → ⊥
uses_the_newer c = let clash : 2 ≤ 1 = c.0.least 1 first_of_two refl in omega (arith, clash)

-- ---- eight stay idle

-- the ninth is answered while the eight before it are idle
abbrev pub ninth_heard : List Entry
ninth_heard = Happened (Up 9 answer_text) ∷ answers 8 (asked 9)

pub eight_idle : AreIdle by_keeping ninth_heard (8 ∷ 7 ∷ 6 ∷ 5 ∷ 4 ∷ 3 ∷ 2 ∷ 1 ∷ [])
unfolding total_size
eight_idle = (
  idle_on Whole ninth_heard 8 15 refl refl refl refl refl refl refl,
  (
    idle_on Whole ninth_heard 7 13 refl refl refl refl refl refl refl,
    (
      idle_on Whole ninth_heard 6 11 refl refl refl refl refl refl refl,
      (
        idle_on Whole ninth_heard 5 9 refl refl refl refl refl refl refl,
        (
          idle_on Whole ninth_heard 4 7 refl refl refl refl refl refl refl,
          (
            idle_on Whole ninth_heard 3 5 refl refl refl refl refl refl refl,
            (idle_on Whole ninth_heard 2 3 refl refl refl refl refl refl refl, (idle_on Whole ninth_heard 1 1 refl refl refl refl refl refl refl, tt)),
          ),
        ),
      ),
    ),
  ),
)

pub ninth_idle : IsIdle by_keeping ninth_heard 9
unfolding total_size
ninth_idle = idle_on Whole ninth_heard 9 17 refl refl refl refl refl refl refl

pub nine : AreDistinct (9 ∷ 8 ∷ 7 ∷ 6 ∷ 5 ∷ 4 ∷ 3 ∷ 2 ∷ 1 ∷ [])
nine = (refl, (refl, (refl, (refl, (refl, (refl, (refl, (refl, (refl, tt)))))))))

pub one_too_many : IsOneTooMany by_keeping ninth_heard 9
one_too_many = record { is_new = refl; others = 8 ∷ 7 ∷ 6 ∷ 5 ∷ 4 ∷ 3 ∷ 2 ∷ 1 ∷ []; distinct = nine; are_idle = eight_idle; many = omega arith }

-- so it is closed, though but for that it might be kept.
pub closes_ninth : IsDoneWith by_keeping (Did (Close 9) ∷ ninth_heard) 9 ninth_heard
unfolding total_size
closes_ninth = record { was_open = refl; reason = Complete (answer.response, answer.answered); not_kept = λ kept. one_too_many }

-- It keeps nine.
pub keeps_nine : FewAreIdle by_keeping ninth_heard → ⊥
keeps_nine few = let clash : 9 ≤ 8 = few (9 ∷ 8 ∷ 7 ∷ 6 ∷ 5 ∷ 4 ∷ 3 ∷ 2 ∷ 1 ∷ []) nine (ninth_idle, eight_idle) in omega (arith, clash)

-- It closes one of the eight in place of the ninth.
pub closes_the_oldest : IsDoneWith by_keeping (Did (Close 1) ∷ ninth_heard) 1 ninth_heard → ⊥
unfolding total_size
closes_the_oldest c =
    let many = c.not_kept (kept_on Whole (Did (Close 1) ∷ ninth_heard) (exchange 1 1) refl refl refl refl refl) in
    let clash : 9 ≡ 1 = many.is_new in omega (arith, clash)

-- ---- few are idle

-- One connection alone is idle.
pub few_idle : FewAreIdle by_keeping first_answered
few_idle [] apart are = omega arith
few_idle (k ∷ []) apart are = omega arith
few_idle (k ∷ j ∷ ks) apart are =
    let second : (j == k) ≡ true = ap (λ (n : ℕ). n == k) (only_one j are.1.0) ∙ ap (λ (n : ℕ). 1 == n) (only_one k are.0) in
    let clash : true ≡ false = sym (ap (λ b. b || list_any (λ i. i == k) ks) second) ∙ apart.0 in absurd (let no : true ≡ false = clash in cc)
  where
    only_one : (n : ℕ) → IsIdle by_keeping first_answered n → n ≡ 1
    only_one n i = elim (eqb_tells n 1) [
      | inl same ↦ same.1
      | inr other ↦ absurd (let clash : false ≡ true = sym (ap (λ b. if b then true else false) other.0) ∙ i.is_open in cc)
    ]

-- ---- no more than eight connections

abbrev pub IsOne : ℕ → List ℕ → Type 0
IsOne k ks = list_any (λ j. j == k) ks ≡ true

-- either of two
or_more : (a b : Bool) → b ≡ true → (a || b) ≡ true
or_more true b e = refl
or_more false b e = e

remove : ℕ → List ℕ → List ℕ
remove k [] = []
remove k (j ∷ js) = if j == k then js else j ∷ remove k js

removed_length : (k : ℕ) (js : List ℕ) → IsOne k js → length js ≡ suc (length (remove k js))
unfolding remove
removed_length k [] i = cc
removed_length k (j ∷ js) i = elim (eqb_tells j k) [
  | inl same ↦ sym (ap (λ b. suc (length (if b then js else j ∷ remove k js))) same.0)
  | inr apart ↦ (let more = removed_length k js (sym (ap (λ b. b || list_any (λ n. n == k) js) apart.0) ∙ i) in
      ap suc more ∙ sym (ap (λ b. suc (length (if b then js else j ∷ remove k js))) apart.0))
]

removed_other : (k n : ℕ) (js : List ℕ) → IsOne n js → (n ≡ k → ⊥) → IsOne n (remove k js)
unfolding remove
removed_other k n [] i apart = i
removed_other k n (j ∷ js) i apart = elim (eqb_tells j k) [
  | inl same ↦ ap (λ b. list_any (λ m. m == n) (if b then js else j ∷ remove k js)) same.0
      ∙ (sym (ap (λ b. b || list_any (λ m. m == n) js) (ne_eqb j n (λ e. apart (sym e ∙ same.1)))) ∙ i)
  | inr differs ↦ ap (λ b. list_any (λ m. m == n) (if b then js else j ∷ remove k js)) differs.0 ∙ by (j == n) i (removed_other k n js)
]
  where
    by : (b : Bool) → (b || list_any (λ m. m == n) js) ≡ true → (IsOne n js → (n ≡ k → ⊥) → IsOne n (remove k js))
        → (b || list_any (λ m. m == n) (remove k js)) ≡ true
    by true e more = refl
    by false e more = more e apart

-- there are no more distinct numbers in a list than it has
pub few_distinct : (ks js : List ℕ) → AreDistinct ks → ((n : ℕ) → IsOne n ks → IsOne n js) → length ks ≤ length js
few_distinct [] js d all = omega arith
few_distinct (k ∷ ks) js d all =
    let size = removed_length k js (all k (ap (λ b. b || list_any (λ j. j == k) ks) (eq-eqb k k refl))) in
    let more = few_distinct ks (remove k js) d.1 (λ n i. removed_other k n js (all n (or_more (k == n) (list_any (λ j. j == n) ks) i)) (other n i)) in
    omega (arith, size, more)
  where
    other : (n : ℕ) → IsOne n ks → n ≡ k → ⊥
    other n i e = let clash : true ≡ false = sym i ∙ ap (λ m. list_any (λ j. j == m) ks) e ∙ d.0 in cc

-- the numbers from so many on down
abbrev pub down : ℕ → List ℕ
down zero = []
down (suc n) = suc n ∷ down n

pub opened_down : (n k : ℕ) → is_open k (asked n) ≡ true → IsOne k (down n)
opened_down zero k on = let clash : false ≡ true = on in cc
opened_down (suc n) k on = elim (eqb_tells k (suc n)) [
  | inl same ↦ ap (λ b. b || list_any (λ j. j == k) (down n)) (eq-eqb (suc n) k (sym same.1))
  | inr apart ↦ or_more (suc n == k) (list_any (λ j. j == k) (down n)) (opened_down n k (sym (ap (λ b. if b then true else is_open k (asked n)) apart.0) ∙ on))
]

-- the eighth is answered while the seven before it are idle
abbrev pub eighth_heard : List Entry
eighth_heard = Happened (Up 8 answer_text) ∷ answers 7 (asked 8)

-- where these alone are open, idle ones are among them
pub idle_down : (known : Known) (t : List Entry) (most : ℕ) → ((k : ℕ) → is_open k t ≡ true → IsOne k (down most)) → (ks : List ℕ)
    → AreIdle known t ks → (n : ℕ) → IsOne n ks → IsOne n (down most)
idle_down known t most opened [] are n i = cc
idle_down known t most opened (k ∷ ks) are n i = elim (eqb_tells k n) [
  | inl same ↦ (let one : IsIdle known t n = subst (IsIdle known t) same.1 are.0 in opened n one.is_open)
  | inr apart ↦ idle_down known t most opened ks are.1 n (sym (ap (λ b. b || list_any (λ j. j == n) ks) apart.0) ∙ i)
]

-- Eight may stay,
pub keeps_eight : FewAreIdle by_keeping eighth_heard
keeps_eight ks apart are = few_distinct ks (down 8) apart (idle_down by_keeping eighth_heard 8 (opened_down 8) ks are)

eighth_idle : IsIdle by_keeping eighth_heard 8
unfolding total_size
eighth_idle = idle_on Whole eighth_heard 8 15 refl refl refl refl refl refl refl

-- so the eighth isn't one too many,
pub not_too_many : IsOneTooMany by_keeping eighth_heard 8 → ⊥
not_too_many m =
    let few : length (8 ∷ m.others) ≤ 8 = few_distinct (8 ∷ m.others) (down 8) m.distinct (idle_down by_keeping eighth_heard 8 (opened_down 8) (8 ∷ m.others) (eighth_idle, m.are_idle)) in
    let many = m.many in omega (arith, few, many)

-- and it isn't closed.
pub closes_the_eighth : IsDoneWith by_keeping (Did (Close 8) ∷ eighth_heard) 8 eighth_heard → ⊥
unfolding total_size
closes_the_eighth c = not_too_many (c.not_kept (kept_on Whole (Did (Close 8) ∷ eighth_heard) (exchange 8 15) refl refl refl refl refl))
