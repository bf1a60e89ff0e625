-- Open connections, whose numbers rise: where they are found, changed and removed.
use Rattle.std.proofs.Common.{◌≡◌, ℕ, ◌+◌, ◌-◌, ◌<◌, ◌≤◌, ◌==◌, if◌then◌else◌, Bool, true, false, List, [], ◌∷◌, ◌++◌, length, map, set, get_or, Some, None, Result, Ok, Err, sym, ap, ◌∙◌, subst, inl, inr, arith}
use Rattle.std.specs.Prelude.{zero, suc, reverse, IfSome, IfNone}
use Rattle.std.specs.List.{remove, push}
use Rattle.std.specs.List.Sorted.{IsSearchInRange, IsBinarySearchResult, IsNonDecreasingBy}
use Rattle.std.specs.Result.{result_ok}
use Rattle.std.specs.Ordering.{nat_cmp, ordering_index}
use Rattle.std.proofs.lemmas.Cmp.{ranked}
use Rattle.std.proofs.lemmas.List.Sorted.{IsNonDecreasingBy-from_default}
use Rattle.std.proofs.lemmas.Bool.{cases_lt, eq-eqb, ne_eqb}
use Rattle.std.proofs.lemmas.Bool.Decides.{nat_tests}
use Rattle.std.proofs.lemmas.List.{reverse-append, length-reverse, get_or-reverse}
use Rattle.upstream_response.specs.Waiting.{Answer}
use Rattle.theory_requests.specs.Lines as theory_requests
use Rattle.theory_requests.specs.Lines.{find, without}
use Rattle.theory_requests.specs.Lines.Answer.{Pending}
use Rattle.upstream_connections.specs.Places.{IsNowhere}
use Rattle.upstream_connections.specs.Connections.{Connection, number_of, works_for, no_connection, IsOpenAt, IsOpenNowhere, AreBelow, AreRising, marked_at, given_at, answer_at, put_at, taken_at}
use Rattle.upstream_connections.proofs.Lists.{IsOnly, find_none, find_only, without_none, without_only, map_none, map_only, turned_none, turned_alone}

-- the number at a place
abbrev number_at : List Connection → ℕ → ℕ
number_at cs i = number_of (get_or cs i no_connection)

-- ---- numbers that fall

below_at : (top : ℕ) (cs : List Connection) → AreBelow top cs → (i : ℕ) → i < length cs → number_at cs i < top
below_at top [] below i lt = omega (arith, lt)
below_at top (c ∷ cs) below zero lt = below.0
below_at top (c ∷ cs) below (suc i) lt = let less = below_at c.live.k cs below.1 i (omega arith) in let first = below.0 in omega (arith, less, first)

falling : (top : ℕ) (cs : List Connection) → AreBelow top cs → (i j : ℕ) → i < j → j < length cs → number_at cs j < number_at cs i
falling top [] below i j lt within = omega (arith, within)
falling top (c ∷ cs) below i zero lt within = omega (arith, lt)
falling top (c ∷ cs) below zero (suc j) lt within = below_at c.live.k cs below.1 j (omega arith)
falling top (c ∷ cs) below (suc i) (suc j) lt within = falling c.live.k cs below.1 i j (omega arith) (omega arith)

once : (top : ℕ) (cs : List Connection) → AreBelow top cs → (i j : ℕ) → i < length cs → j < length cs → number_at cs i ≡ number_at cs j → i ≡ j
once top cs below i j l m same = elim (cases_lt i j) [
  | inl less ↦ (let fall = falling top cs below i j less m in omega (arith, fall, same))
  | inr from ↦ elim (cases_lt j i) [
    | inl more ↦ (let fall = falling top cs below j i more l in omega (arith, fall, same))
    | inr upto ↦ omega (arith, from, upto)
  ]
]

pub weaker : (low top : ℕ) (cs : List Connection) → low ≤ top → AreBelow low cs → AreBelow top cs
weaker low top [] le below = tt
weaker low top (c ∷ cs) le below = (let first = below.0 in omega (arith, first, le), below.1)

-- one more was opened
pub below_opened : (count : ℕ) (cs new : List Connection) (c : Connection) → new ≡ cs ++ c ∷ [] → c.live.k ≡ count + 1 → AreBelow (suc count) (reverse cs) → AreBelow (suc (count + 1)) (reverse new)
below_opened count cs new c is next below =
    subst (λ ys. AreBelow (suc (count + 1)) (reverse ys)) (sym is)
    (subst (AreBelow (suc (count + 1))) (sym (reverse-append cs (c ∷ []))) (omega (arith, next), weaker (suc count) c.live.k (reverse cs) (omega (arith, next)) below))

-- some are removed
pub below_without : (k top : ℕ) (cs : List Connection) → AreBelow top cs → AreBelow top (without number_of k cs)
below_without k top [] below = tt
below_without k top (c ∷ cs) below = by (number_of c == k) (below_without k c.live.k cs below.1)
  where
    by : (b : Bool) → AreBelow c.live.k (without number_of k cs) → AreBelow top (if b then without number_of k cs else c ∷ without number_of k cs)
    by true rest = weaker c.live.k top (without number_of k cs) (let first = below.0 in omega (arith, first)) rest
    by false rest = (below.0, rest)

-- some change, and keep their numbers
pub below_changed : (f : Connection → Connection) → ((c : Connection) → (f c).live.k ≡ c.live.k) → (top : ℕ) (cs : List Connection) → AreBelow top cs → AreBelow top (map f cs)
below_changed f keeps top [] below = tt
below_changed f keeps top (c ∷ cs) below = (
  let first = below.0 in let same = keeps c in omega (arith, first, same),
  subst (λ n. AreBelow n (map f cs)) (sym (keeps c)) (below_changed f keeps c.live.k cs below.1),
)

-- ---- a search by halves

module _ (cs : List Connection) (rising : AreRising cs) (k : ℕ) where
  numbers_rise : (i j : ℕ) → i < j → j < length cs → number_at cs i < number_at cs j
  numbers_rise i j lt within =
      let size = length-reverse cs in
      let last : ℕ = length cs - 1 in
      let at : (n : ℕ) → n < length cs → get_or (reverse cs) (last - n) no_connection ≡ get_or cs n no_connection =
      λ n low. get_or-reverse cs (last - n) no_connection (omega (arith, low)) ∙ ap (λ m. get_or cs m no_connection) (let back : length cs - 1 - (last - n) ≡ n = omega (arith, low) in back) in
      let fall_at : number_at (reverse cs) (last - i) < number_at (reverse cs) (last - j) = falling rising.0 (reverse cs) rising.1 (last - j) (last - i) (omega (arith, lt, within)) (omega (arith, size, lt, within)) in
      subst (λ c. number_of c < number_at cs j) (at i (omega (arith, lt, within))) (subst (λ c. number_at (reverse cs) (last - i) < number_of c) (at j within) fall_at)

  -- the comparisons with the number rise, as a binary search asks
  comparisons_rise : IsNonDecreasingBy (λ (c : Connection). ordering_index (nat_cmp c.live.k k)) cs
  comparisons_rise = IsNonDecreasingBy-from_default (λ (c : Connection). ordering_index (nat_cmp c.live.k k)) cs no_connection (λ i j le in_range.
      let low : number_at cs i ≤ number_at cs j = grind (arith, numbers_rise i j, λ (same : i ≡ j). ap (number_at cs) same) in
      grind (arith, nat_tests))

  -- a binary search by the number ends at its connection, or at a gap
  pub searched : (r : Result ℕ ℕ) → IsSearchInRange r (length cs) → IsBinarySearchResult (λ (c : Connection). nat_cmp c.live.k k) cs r → record { found : IfSome (result_ok r) (IsOpenAt cs k); absent : IfNone (result_ok r) (IsOpenNowhere cs k) }
  searched (Ok place) in_range equal = record { found = record { within = in_range; has_key = ranked _ k _ (sym (equal no_connection)) }; absent = tt }
  searched (Err place) in_range parted = record {
    found = tt;
    absent = λ i lt same. elim (cases_lt i place) [
      | inl before ↦ (let low : number_at cs i < k = ranked _ k _ (sym ((parted comparisons_rise).0 i no_connection (omega arith) before)) in omega (arith, low, same))
      | inr from ↦ (let high : k < number_at cs i = ranked _ k _ (sym ((parted comparisons_rise).1 i no_connection from lt)) in omega (arith, high, same))
    ];
  }

-- ---- the connection at a place

module _ (cs : List Connection) (rising : AreRising cs) (k place : ℕ) (is : IsOpenAt cs k place) where
  only : IsOnly number_of no_connection cs k place
  only = record { is = is; alone = turned_alone number_of no_connection cs (once rising.0 (reverse cs) rising.1) k place is }

  abbrev it : Connection
  it = get_or cs place no_connection

  pub found : find number_of k (reverse cs) ≡ Some it
  found = find_only number_of no_connection cs k place only

  pub removed : without number_of k (reverse cs) ≡ reverse (remove cs place)
  removed = without_only number_of no_connection cs k place only

  changed : (f : Connection → Connection) → ((c : Connection) → (number_of c ≡ k → ⊥) → f c ≡ c) → (c : Connection) → c ≡ f it → reverse (set cs place c) ≡ map f (reverse cs)
  changed f same c new = ap (λ x. reverse (set cs place x)) new ∙ sym (map_only number_of no_connection cs k place only f same)

  own : (it.live.k == k) ≡ true
  own = eq-eqb it.live.k k is.has_key

  other : (c : Connection) → (number_of c ≡ k → ⊥) → (c.live.k == k) ≡ false
  other c apart = ne_eqb c.live.k k apart

  pub marked_there : (progress : theory_requests.Answer) → reverse (set cs place (record it { live = record it.live { answer = progress } })) ≡ map (marked_at k progress) (reverse cs)
  marked_there progress = changed (marked_at k progress)
      (λ c apart. ap (λ b. let n : Connection = record c { live = record c.live { answer = if b then progress else c.live.answer } } in n) (other c apart))
      (record it { live = record it.live { answer = progress } })
      (ap (λ b. let n : Connection = record it { live = record it.live { answer = if b then progress else it.live.answer } } in n) (sym own))

  pub given_there : (stream : ℕ) (answer : Answer) → reverse (set cs place (record it { live = record it.live { stream = stream; answer = Pending }; answer = answer })) ≡ map (given_at k stream answer) (reverse cs)
  given_there stream answer = changed (given_at k stream answer)
      (λ c apart. ap (λ b. let n : Connection = record c { live = record c.live { stream = if b then stream else c.live.stream; answer = if b then Pending else c.live.answer }; answer = if b then answer else c.answer } in n) (other c apart))
      (record it { live = record it.live { stream = stream; answer = Pending }; answer = answer })
      (ap (λ b. let n : Connection = record it { live = record it.live { stream = if b then stream else it.live.stream; answer = if b then Pending else it.live.answer }; answer = if b then answer else it.answer } in n) (sym own))

  pub answer_there : (answer : Answer) → reverse (set cs place (record it { answer = answer })) ≡ map (answer_at k answer) (reverse cs)
  answer_there answer = changed (answer_at k answer)
      (λ c apart. ap (λ b. let n : Connection = record c { answer = if b then answer else c.answer } in n) (other c apart))
      (record it { answer = answer })
      (ap (λ b. let n : Connection = record it { answer = if b then answer else it.answer } in n) (sym own))

  pub put_there : (count : ℕ) → reverse (set cs place (record it { out = it.out + count })) ≡ map (put_at k count) (reverse cs)
  put_there count = changed (put_at k count)
      (λ c apart. ap (λ b. let n : Connection = record c { out = if b then c.out + count else c.out } in n) (other c apart))
      (record it { out = it.out + count })
      (ap (λ b. let n : Connection = record it { out = if b then it.out + count else it.out } in n) (sym own))

  pub taken_there : (count : ℕ) → reverse (set cs place (record it { took = it.took + count })) ≡ map (taken_at k count) (reverse cs)
  taken_there count = changed (taken_at k count)
      (λ c apart. ap (λ b. let n : Connection = record c { took = if b then c.took + count else c.took } in n) (other c apart))
      (record it { took = it.took + count })
      (ap (λ b. let n : Connection = record it { took = if b then it.took + count else it.took } in n) (sym own))

-- ---- where none has the number

module _ (cs : List Connection) (k : ℕ) (none : IsOpenNowhere cs k) where
  turned : IsNowhere number_of no_connection (reverse cs) k
  turned = turned_none number_of no_connection k cs none

  pub not_found : find number_of k (reverse cs) ≡ None
  not_found = find_none number_of no_connection k (reverse cs) turned

  pub none_removed : without number_of k (reverse cs) ≡ reverse cs
  none_removed = without_none number_of no_connection k (reverse cs) turned

  pub none_changed : (f : Connection → Connection) → ((c : Connection) → (number_of c ≡ k → ⊥) → f c ≡ c) → map f (reverse cs) ≡ reverse cs
  none_changed f same = map_none number_of no_connection f k (reverse cs) same turned

  pub none_marked : (progress : theory_requests.Answer) → reverse cs ≡ map (marked_at k progress) (reverse cs)
  none_marked progress = sym (none_changed (marked_at k progress) (λ c apart. ap (λ b. let n : Connection = record c { live = record c.live { answer = if b then progress else c.live.answer } } in n) (ne_eqb c.live.k k apart)))

  pub none_given : (stream : ℕ) (answer : Answer) → reverse cs ≡ map (given_at k stream answer) (reverse cs)
  none_given stream answer = sym (none_changed (given_at k stream answer)
      (λ c apart. ap (λ b. let n : Connection = record c { live = record c.live { stream = if b then stream else c.live.stream; answer = if b then Pending else c.live.answer }; answer = if b then answer else c.answer } in n) (ne_eqb c.live.k k apart)))

  pub none_put : (count : ℕ) → reverse cs ≡ map (put_at k count) (reverse cs)
  none_put count = sym (none_changed (put_at k count) (λ c apart. ap (λ b. let n : Connection = record c { out = if b then c.out + count else c.out } in n) (ne_eqb c.live.k k apart)))

  pub none_taken : (count : ℕ) → reverse cs ≡ map (taken_at k count) (reverse cs)
  none_taken count = sym (none_changed (taken_at k count) (λ c apart. ap (λ b. let n : Connection = record c { took = if b then c.took + count else c.took } in n) (ne_eqb c.live.k k apart)))

-- ---- walks from the newest on

-- the newest connection is the first that is found
pub newest_found : (id : ℕ) (cs : List Connection) (c : Connection) → works_for c ≡ id → find works_for id (reverse (push cs c)) ≡ Some c
newest_found id cs c same =
    ap (find works_for id) (reverse-append cs (c ∷ []))
    ∙ ap (λ b. if b then Some c else find works_for id (reverse cs)) (eq-eqb (works_for c) id same)

pub newest_other : (id : ℕ) (cs : List Connection) (c : Connection) → (works_for c ≡ id → ⊥) → find works_for id (reverse (push cs c)) ≡ find works_for id (reverse cs)
newest_other id cs c apart =
    ap (find works_for id) (reverse-append cs (c ∷ []))
    ∙ ap (λ b. if b then Some c else find works_for id (reverse cs)) (ne_eqb (works_for c) id apart)
