-- Sums over what is kept for streams, and over streams.
use Rattle.std.proofs.Common.{◌≡◌, ℕ, ◌+◌, ◌*◌, ◌≤◌, ◌⊎◌, Bool, true, false, ◌==◌, if◌then◌else◌, List, [], ◌∷◌, map, length, Option, Some, None, refl, sym, ◌∙◌, ap, subst, inl, inr, arith}
use Rattle.std.specs.Prelude.{is_some, sum_by, option_map, All}
use Rattle.std.specs.List.{list_any}
use Rattle.std.proofs.lemmas.Bool.{or_parts, eq-eqb, ne_eqb, eqb-true}
use Rattle.std.proofs.lemmas.Bool.Decides.{eqb_tells}
use Rattle.std.proofs.lemmas.List.Elements.{All-cons, All-nil, All-head, All-tail}
use Rattle.std.proofs.lemmas.List.Sums.{sum_by-cons}
use Rattle.theory_responses.specs.Held.{octets_in, AreDistinct}
use Rattle.theory_responses.specs.State.{Kept}
use Rattle.theory_responses.specs.State as theory_responses
use Rattle.theory_requests.specs.Lines.{Line, find, line_of}
use Rattle.upstream_connections.specs.Connections.{Connection, number_of, stream_of, lives}
use Rattle.theory.specs.Held.{on_offer_for}
use Rattle.theory.proofs.EndingLives.{AreApart}
use Rattle.refinement.proofs.Lives.{lives_found}
use Rattle.upstream_response.specs.HeldInside.{octets_of}
use Rattle.upstream_connections.specs.HeldInside.{answers_in}
use Rattle.theory_memory_bound.specs.Held.{answers_for}

-- ---- outboxes

-- the ids of those that are kept
abbrev pub ids_of : List Kept → List ℕ
ids_of ks = map (λ (k : Kept). k.id) ks

-- nothing is on offer for a stream that isn't among these
offer_beside : (stream : ℕ) (ks : List Kept) → list_any (λ other. other == stream) (ids_of ks) ≡ false → on_offer_for stream ks ≡ 0
offer_beside stream [] none = refl
offer_beside stream (k ∷ ks) none =
    let parts = or_parts (k.id == stream) (list_any (λ other. other == stream) (ids_of ks)) none in
    let here : (if k.id == stream then octets_in k.box else 0) ≡ 0 = ap (λ b. if b then octets_in k.box else 0) parts.0 in
    let rest = offer_beside stream ks parts.1 in
    omega (arith, here, rest)

-- nor for one that isn't found
pub offer_none : (stream : ℕ) (ks : List Kept) → theory_responses.find stream ks ≡ None → on_offer_for stream ks ≡ 0
offer_none stream [] none = refl
offer_none stream (k ∷ ks) none = by (k.id == stream) none (offer_none stream ks)
  where
    by : (b : Bool) → (if b then Some k else theory_responses.find stream ks) ≡ None → (theory_responses.find stream ks ≡ None → on_offer_for stream ks ≡ 0) → (if b then octets_in k.box else 0) + on_offer_for stream ks ≡ 0
    by true e more = let clash : ◌≡◌ {A = Option Kept} (Some k) None = e in cc
    by false e more = let rest = more e in omega (arith, rest)

-- for one that is found it is what the outbox holds, where no id stands twice
pub offer_found : (stream : ℕ) (ks : List Kept) (x : Kept) → AreDistinct (ids_of ks) → theory_responses.find stream ks ≡ Some x → on_offer_for stream ks ≡ octets_in x.box
offer_found stream [] x apart found = let clash : ◌≡◌ {A = Option Kept} None (Some x) = found in cc
offer_found stream (k ∷ ks) x apart found = by (k.id == stream) refl found (offer_found stream ks x apart.1)
  where
    by : (b : Bool) → (k.id == stream) ≡ b → (if b then Some k else theory_responses.find stream ks) ≡ Some x → (theory_responses.find stream ks ≡ Some x → on_offer_for stream ks ≡ octets_in x.box) → (if b then octets_in k.box else 0) + on_offer_for stream ks ≡ octets_in x.box
    by true is e more =
        let none = offer_beside stream ks (subst (λ n. list_any (λ other. other == n) (ids_of ks) ≡ false) (eqb-true k.id stream is) apart.0) in
        let both : Some k ≡ Some x = e in
        let same : k ≡ x = cc in
        let octets = ap (λ (y : Kept). octets_in y.box) same in
        omega (arith, none, octets)
    by false is e more = let rest = more e in omega (arith, rest)

-- what holds of all holds of one that is found
pub box_at : (P : Kept → Type 0) (stream : ℕ) (ks : List Kept) (x : Kept) → All P ks → theory_responses.find stream ks ≡ Some x → P x
box_at P stream [] x all found = let clash : ◌≡◌ {A = Option Kept} None (Some x) = found in cc
box_at P stream (k ∷ ks) x all found = by (k.id == stream) found (box_at P stream ks x (All-tail P k ks all))
  where
    by : (b : Bool) → (if b then Some k else theory_responses.find stream ks) ≡ Some x → (theory_responses.find stream ks ≡ Some x → P x) → P x
    by true e more = let both : Some k ≡ Some x = e in let same : k ≡ x = cc in subst P same (All-head P k ks all)
    by false e more = more e

-- ---- connections

-- what holds of all holds of one that is found
pub connection_at : (P : Connection → Type 0) (key : Connection → ℕ) (n : ℕ) (cs : List Connection) (x : Connection) → All P cs → find key n cs ≡ Some x → P x
connection_at P key n [] x all found = let clash : ◌≡◌ {A = Option Connection} None (Some x) = found in cc
connection_at P key n (c ∷ cs) x all found = by (key c == n) found (connection_at P key n cs x (All-tail P c cs all))
  where
    by : (b : Bool) → (if b then Some c else find key n cs) ≡ Some x → (find key n cs ≡ Some x → P x) → P x
    by true e more = let both : Some c ≡ Some x = e in let same : c ≡ x = cc in subst P same (All-head P c cs all)
    by false e more = more e

-- the number of the first isn't that of one behind it
number_beside : (c : Connection) (cs : List Connection) (n : ℕ) (x : Connection) → line_of c.live.k (lives cs) ≡ None → find number_of n cs ≡ Some x → (c.live.k == n) ≡ false
number_beside c cs n x none found =
    ne_eqb c.live.k n (λ same.
    let clash : ◌≡◌ {A = Option Line} None (Some x.live) = sym none ∙ ap (λ m. line_of m (lives cs)) same ∙ lives_found n cs ∙ ap (option_map (λ (d : Connection). d.live)) found in
    cc)

pub found_behind : (c : Connection) (cs : List Connection) (n : ℕ) (x : Connection) → line_of c.live.k (lives cs) ≡ None → find number_of n cs ≡ Some x → find number_of n (c ∷ cs) ≡ Some x
found_behind c cs n x none found = ap (λ b. if b then Some c else find number_of n cs) (number_beside c cs n x none found) ∙ found

pub found_own : (c : Connection) (cs : List Connection) → find number_of c.live.k (c ∷ cs) ≡ Some c
found_own c cs = ap (λ b. if b then Some c else find number_of c.live.k cs) (eq-eqb c.live.k c.live.k refl)

-- where numbers stand once, what holds of those that are found by theirs holds of all
pub all_found : (P : Connection → Type 0) (cs : List Connection) → AreApart (lives cs) → ((n : ℕ) (c : Connection) → find number_of n cs ≡ Some c → P c) → All P cs
all_found P [] apart by = All-nil P
all_found P (c ∷ cs) apart by = All-cons P c cs (by c.live.k c (found_own c cs)) (all_found P cs apart.1 (λ n x found. by n x (found_behind c cs n x apart.0 found)))

-- one that is found by its stream is found by its number
pub by_number : (stream : ℕ) (cs : List Connection) (x : Connection) → AreApart (lives cs) → find stream_of stream cs ≡ Some x → find number_of x.live.k cs ≡ Some x
by_number stream [] x apart found = let clash : ◌≡◌ {A = Option Connection} None (Some x) = found in cc
by_number stream (c ∷ cs) x apart found = by (c.live.stream == stream) found (by_number stream cs x apart.1)
  where
    by : (b : Bool) → (if b then Some c else find stream_of stream cs) ≡ Some x → (find stream_of stream cs ≡ Some x → find number_of x.live.k cs ≡ Some x) → find number_of x.live.k (c ∷ cs) ≡ Some x
    by true e more = let both : Some c ≡ Some x = e in let same : c ≡ x = cc in subst (λ (y : Connection). find number_of y.live.k (c ∷ cs) ≡ Some y) same (found_own c cs)
    by false e more = found_behind c cs x.live.k x apart.0 (more e)

-- no stream has two connections
abbrev pub HaveOne : List Connection → Type 0
HaveOne [] = Unit {0}
HaveOne (c ∷ cs) = (find stream_of c.live.stream cs ≡ None) × HaveOne cs

pub answers_none : (stream : ℕ) (cs : List Connection) → find stream_of stream cs ≡ None → answers_for stream cs ≡ 0
answers_none stream [] none = refl
answers_none stream (c ∷ cs) none = by (c.live.stream == stream) none (answers_none stream cs)
  where
    by : (b : Bool) → (if b then Some c else find stream_of stream cs) ≡ None → (find stream_of stream cs ≡ None → answers_for stream cs ≡ 0) → (if b then octets_of c.answer else 0) + answers_for stream cs ≡ 0
    by true e more = let clash : ◌≡◌ {A = Option Connection} (Some c) None = e in cc
    by false e more = let rest = more e in omega (arith, rest)

pub answers_found : (stream : ℕ) (cs : List Connection) (x : Connection) → HaveOne cs → find stream_of stream cs ≡ Some x → answers_for stream cs ≡ octets_of x.answer
answers_found stream [] x one found = let clash : ◌≡◌ {A = Option Connection} None (Some x) = found in cc
answers_found stream (c ∷ cs) x one found = by (c.live.stream == stream) refl found (answers_found stream cs x one.1)
  where
    by : (b : Bool) → (c.live.stream == stream) ≡ b → (if b then Some c else find stream_of stream cs) ≡ Some x → (find stream_of stream cs ≡ Some x → answers_for stream cs ≡ octets_of x.answer)
        → (if b then octets_of c.answer else 0) + answers_for stream cs ≡ octets_of x.answer
    by true is e more =
        let none = answers_none stream cs (subst (λ n. find stream_of n cs ≡ None) (eqb-true c.live.stream stream is) one.0) in
        let both : Some c ≡ Some x = e in
        let same : c ≡ x = cc in
        let octets = ap (λ (y : Connection). octets_of y.answer) same in
        omega (arith, none, octets)
    by false is e more = let rest = more e in omega (arith, rest)

-- ---- sums over the streams that have an outbox

abbrev pub sums : (ℕ → ℕ) → List Kept → ℕ
sums f [] = 0
sums f (k ∷ ks) = f k.id + sums f ks

pub sums_most : (f : ℕ → ℕ) (most : ℕ) (ks : List Kept) → ((stream : ℕ) → f stream ≤ most) → sums f ks ≤ length ks * most
sums_most f most [] less = omega arith
sums_most f most (k ∷ ks) less = let first = less k.id in let rest = sums_most f most ks less in grind (arith, first, rest)

pub sums_both : (f g : ℕ → ℕ) (ks : List Kept) → sums (λ n. f n + g n) ks ≡ sums f ks + sums g ks
sums_both f g [] = refl
sums_both f g (k ∷ ks) = let rest = sums_both f g ks in omega (arith, rest)

-- what all outboxes hold, by their streams
offers_sum : (all ks : List Kept) → ((stream : ℕ) → on_offer_for stream ks ≤ on_offer_for stream all) → sum_by (λ (k : Kept). octets_in k.box) ks ≤ sums (λ n. on_offer_for n all) ks
offers_sum all [] among = omega arith
offers_sum all (k ∷ ks) among =
    let here : (if k.id == k.id then octets_in k.box else 0) ≡ octets_in k.box = ap (λ b. if b then octets_in k.box else 0) (eq-eqb k.id k.id refl) in
    let first : (if k.id == k.id then octets_in k.box else 0) + on_offer_for k.id ks ≤ on_offer_for k.id all = among k.id in
    let rest = offers_sum all ks (λ stream. let more : (if k.id == stream then octets_in k.box else 0) + on_offer_for stream ks ≤ on_offer_for stream all = among stream in omega (arith, more)) in
    let sum = sum_by-cons (λ (x : Kept). octets_in x.box) k ks in
    omega (arith, here, first, rest, sum)

pub offers_by_stream : (ks : List Kept) → sum_by (λ (k : Kept). octets_in k.box) ks ≤ sums (λ n. on_offer_for n ks) ks
offers_by_stream ks = offers_sum ks ks (λ stream. omega arith)

-- what one connection has is among what its stream's have
one_sum : (stream octets : ℕ) (ks : List Kept) → is_some (theory_responses.find stream ks) ≡ true → octets ≤ sums (λ n. if stream == n then octets else 0) ks
one_sum stream octets [] there = absurd (let clash : false ≡ true = there in cc)
one_sum stream octets (k ∷ ks) there = elim (eqb_tells k.id stream) [
  | inl same ↦ (let here : (if stream == k.id then octets else 0) ≡ octets = ap (λ b. if b then octets else 0) (eq-eqb stream k.id (sym same.1)) in omega (arith, here))
  | inr apart ↦ (
      let rest = one_sum stream octets ks (sym (ap (λ b. is_some (if b then Some k else theory_responses.find stream ks)) apart.0) ∙ there) in
      omega (arith, rest))
]

-- The answer of a connection whose stream has no outbox holds nothing.
abbrev pub IsBoxed : List Kept → Connection → Type 0
IsBoxed ks c = (is_some (theory_responses.find c.live.stream ks) ≡ true) ⊎ (octets_of c.answer ≡ 0)

-- all answers, by the streams that have an outbox
pub answers_by_stream : (ks : List Kept) (cs : List Connection) → All (IsBoxed ks) cs → answers_in cs ≤ sums (λ n. answers_for n cs) ks
answers_by_stream ks [] all = omega arith
answers_by_stream ks (c ∷ cs) all =
    let first = one (All-head (IsBoxed ks) c cs all) in
    let rest = answers_by_stream ks cs (All-tail (IsBoxed ks) c cs all) in
    let both : sums (λ n. (if c.live.stream == n then octets_of c.answer else 0) + answers_for n cs) ks ≡ sums (λ n. if c.live.stream == n then octets_of c.answer else 0) ks + sums (λ n. answers_for n cs) ks =
    sums_both (λ n. if c.live.stream == n then octets_of c.answer else 0) (λ n. answers_for n cs) ks in
    omega (arith, first, rest, both)
  where
    one : IsBoxed ks c → octets_of c.answer ≤ sums (λ n. if c.live.stream == n then octets_of c.answer else 0) ks
    one (inl there) = one_sum c.live.stream (octets_of c.answer) ks there
    one (inr none) = omega (arith, none)
