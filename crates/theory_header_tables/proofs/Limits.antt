-- What a block announces keeps within the client's limits, and leaves a table that does.
use Rattle.std.proofs.Common.{◌≡◌, ℕ, ◌≤◌, ◌==◌, nat_lt, min, Bool, true, false, if◌then◌else◌, List, [], ◌∷◌, ◌++◌, map, length, Option, Some, None, refl, ap, sym, ◌∙◌, subst, inl, inr, arith, length-append}
use Rattle.std.specs.Prelude.{All, Any, Contains, unwrap_or}
use Rattle.std.specs.List.{last_or}
use Rattle.std.proofs.lemmas.Bool.{ltb-false, eqb-true}
use Rattle.std.proofs.lemmas.List.Elements.{All-nil, All-cons, All-head, All-tail, All-contains, Contains-push}
use Rattle.model.specs.Messages.{Field}
use Rattle.model.specs.Tables.{Table, resized}
use Rattle.model.specs.Blocks.{Represents, AreFields, AreMaxima}
use Rattle.model.specs.Maxima.{counted, IsLeast, IsLast, Maxima}
use Rattle.model.specs.ResponseClause.{AreWithin}
use Rattle.header_blocks.specs.Encoding.{limits_with, StandsFor}
use Rattle.header_blocks.specs.declared.limits.Limits.{Limits}
use Rattle.header_blocks.proofs.Announced.{one_more_limit}
use Rattle.theory_header_tables.specs.State.{limits_and}

-- ---- the last of numbers

nothing_ends : (xs : List ℕ) (a : ℕ) → [] ≡ xs ++ a ∷ [] → ⊥
nothing_ends xs a e = let sizes = ap length e in let both = length-append xs (a ∷ []) in omega (arith, sizes, both)

same_end : (xs ys : List ℕ) (a b : ℕ) → xs ++ a ∷ [] ≡ ys ++ b ∷ [] → a ≡ b
same_end [] [] a b e = cc
same_end [] (y ∷ ys) a b e = absurd (nothing_ends ys b (let tails : [] ≡ ys ++ b ∷ [] = cc in tails))
same_end (x ∷ xs) [] a b e = absurd (nothing_ends xs a (let tails : [] ≡ xs ++ a ∷ [] = sym (let t : xs ++ a ∷ [] ≡ [] = cc in t) in tails))
same_end (x ∷ xs) (y ∷ ys) a b e = same_end xs ys a b (let tails : xs ++ a ∷ [] ≡ ys ++ b ∷ [] = cc in tails)

one_last : (numbers : List ℕ) (a b : ℕ) → IsLast numbers a → IsLast numbers b → a ≡ b
one_last numbers a b p q = same_end p.before q.before a b (sym p.is ∙ q.is)

-- the least is at most the last
least_first : (numbers : List ℕ) (least last : ℕ) → IsLeast numbers least → IsLast numbers last → least ≤ last
least_first numbers least last p q = All-contains (λ n. least ≤ n) numbers last p.below (subst (λ l. Contains l last) (sym q.is) (Contains-push q.before last))

-- ---- what is kept of limits

-- The maximum that the next block will leave: the last limit, if one came.
abbrev pub to_reach : ℕ → Option Limits → ℕ
to_reach maximum None = maximum
to_reach maximum (Some limits) = limits.last

-- limits that are kept stand for the ones that were named, also behind more of them
pub stands_behind : (named before : List ℕ) (kept : Option Limits) → StandsFor before kept → StandsFor (before ++ named) (limits_and kept named)
stands_behind [] before kept h = subst (λ l. StandsFor l kept) (sym (no_more before)) h
  where
    no_more : (l : List ℕ) → l ++ [] ≡ l
    no_more [] = refl
    no_more (x ∷ l) = ap (λ t. x ∷ t) (no_more l)
stands_behind (limit ∷ named) before kept h =
    subst (λ l. StandsFor l (limits_and (Some (limits_with kept limit)) named)) (regroup before) (stands_behind named (before ++ limit ∷ []) (Some (limits_with kept limit)) (one_more_limit before kept limit h))
  where
    regroup : (l : List ℕ) → (l ++ limit ∷ []) ++ named ≡ l ++ limit ∷ named
    regroup [] = refl
    regroup (x ∷ l) = ap (λ t. x ∷ t) (regroup l)

last_counted : (kept : Option Limits) (limit : ℕ) → (limits_with kept limit).last ≤ limit
last_counted None limit = omega arith
last_counted (Some limits) limit = omega arith

-- what will be reached is within the limit now, also behind more of them
pub reach_behind : (maximum before : ℕ) (named : List ℕ) (o : Option ℕ) (kept : Option Limits) → to_reach maximum kept ≤ unwrap_or o before → to_reach maximum (limits_and kept named) ≤ unwrap_or (last_or o named) before
reach_behind maximum before [] o kept h = h
reach_behind maximum before (limit ∷ named) o kept h = reach_behind maximum before named (Some limit) (Some (limits_with kept limit)) (last_counted kept limit)

-- ---- what is announced

-- a list of limits each of which is at least a number that was reached
come_down : (reached limits : List ℕ) (least : ℕ) → Any (λ r. r ≤ least) reached → All (λ limit. least ≤ limit) (map counted limits) → All (λ limit. Any (λ r. r ≤ limit) reached) limits
come_down reached [] least any all = All-nil (λ limit. Any (λ r. r ≤ limit) reached)
come_down reached (limit ∷ limits) least any all =
    let low : least ≤ counted limit = All-head (λ l. least ≤ l) (counted limit) (map counted limits) all in
    All-cons (λ l. Any (λ r. r ≤ l) reached) limit limits
    (any.0, any.1, any.2, any.3, (let below = any.4 in omega (arith, low, below)))
    (come_down reached limits least any (All-tail (λ l. least ≤ l) (counted limit) (map counted limits) all))

module _ (maximum now least last : ℕ) (low : least ≤ last) (high : last ≤ now) where
  -- what the two tests make of the least and the last
  abbrev named_for : Bool → Bool → List ℕ
  named_for a b = (if a then least ∷ [] else []) ++ (if b then [] else last ∷ [])

  reached_for : (a b : Bool) → nat_lt least maximum ≡ a → Any (λ r. r ≤ least) (maximum ∷ named_for a b)
  reached_for true true e = (1, least, omega arith, refl, omega arith)
  reached_for true false e = (1, least, omega arith, refl, omega arith)
  reached_for false true e = (0, maximum, omega arith, refl, ltb-false least maximum e)
  reached_for false false e = (0, maximum, omega arith, refl, ltb-false least maximum e)

  within_for : (a b : Bool) → All (λ n. n ≤ now) (named_for a b)
  within_for true true = All-cons (λ n. n ≤ now) least [] (omega arith) (All-nil (λ n. n ≤ now))
  within_for true false = All-cons (λ n. n ≤ now) least (last ∷ []) (omega arith) (All-cons (λ n. n ≤ now) last [] high (All-nil (λ n. n ≤ now)))
  within_for false true = All-nil (λ n. n ≤ now)
  within_for false false = All-cons (λ n. n ≤ now) last [] high (All-nil (λ n. n ≤ now))

  few_for : (a b : Bool) → length (named_for a b) ≤ 2
  few_for true true = omega arith
  few_for true false = omega arith
  few_for false true = omega arith
  few_for false false = omega arith

  stands_for : (a b : Bool) → nat_lt least maximum ≡ a → (last == min least maximum) ≡ b → unwrap_or (last_or None (named_for a b)) maximum ≤ now
  stands_for true true e f = omega arith
  stands_for true false e f = high
  stands_for false true e f =
      let above : maximum ≤ least = ltb-false least maximum e in
      let same : last ≡ min least maximum = eqb-true last (min least maximum) f in omega arith
  stands_for false false e f = high

-- What is announced keeps within the limits.
pub keeps_within : (maximum : ℕ) (limits : List ℕ) (kept : Option Limits) (now : ℕ) (maxima : List ℕ) → StandsFor limits kept → to_reach maximum kept ≤ now → Maxima maximum limits maxima → AreWithin maximum limits now maxima
keeps_within maximum [] None now maxima s r m =
    subst (λ l. AreWithin maximum [] now l) (sym m) (record { come_down = All-nil (λ limit. Any (λ reached. reached ≤ limit) (maximum ∷ [])); named = All-nil (λ named. named ≤ now); stands = r; few = omega arith })
keeps_within maximum [] (Some ends) now maxima s r m = absurd (let within = s.least.named.1 in omega (arith, within))
keeps_within maximum (limit ∷ limits) None now maxima s r m = absurd (let no : length (limit ∷ limits) ≡ 0 = ap length s in omega (arith, no))
keeps_within maximum (limit ∷ limits) (Some ends) now maxima s r m =
    let numbers : List ℕ = map counted (limit ∷ limits) in
    let same : m.last ≡ ends.last = one_last numbers m.last ends.last m.is_last s.last in
    let low : m.least ≤ m.last = least_first numbers m.least m.last m.is_least m.is_last in
    let high : m.last ≤ now = omega (arith, same, r) in
    let a : Bool = nat_lt m.least maximum in
    let b : Bool = m.last == min m.least maximum in
    subst (λ l. AreWithin maximum (limit ∷ limits) now l) (sym m.is) (record {
      come_down = come_down (maximum ∷ named_for maximum now m.least m.last low high a b) (limit ∷ limits) m.least (reached_for maximum now m.least m.last low high a b refl) m.is_least.below;
      named = within_for maximum now m.least m.last low high a b;
      stands = stands_for maximum now m.least m.last low high a b refl refl;
      few = few_for maximum now m.least m.last low high a b;
    })

-- ---- the maximum of a table

-- fields leave it as it is
pub same_maximum : (table next : Table) (octets : List ℕ) (fields : List Field) → AreFields table octets fields next → next.maximum ≡ table.maximum
same_maximum table next octets [] h = ap (λ (x : Table). x.maximum) h.1
same_maximum table next octets (field ∷ fields) h = same_maximum h.2 next h.1 fields h.5 ∙ one h.2 h.4
  where
    one : (between : Table) → Represents table h.0 field between → between.maximum ≡ table.maximum
    one between (inl indexed) = ap (λ (x : Table). x.maximum) indexed.same
    one between (inr (inl inserted)) = ap (λ (x : Table). x.maximum) inserted.inserted
    one between (inr (inr (inl left))) = ap (λ (x : Table). x.maximum) left.same
    one between (inr (inr (inr never))) = ap (λ (x : Table). x.maximum) never.same

-- the last of the maxima is the table's
pub last_maximum : (before : ℕ) (o : Option ℕ) (table next : Table) (octets maxima : List ℕ) → table.maximum ≡ unwrap_or o before → AreMaxima table octets maxima next → next.maximum ≡ unwrap_or (last_or o maxima) before
last_maximum before o table next octets [] e h = ap (λ (x : Table). x.maximum) h.1 ∙ e
last_maximum before o table next octets (maximum ∷ maxima) e h = last_maximum before (Some maximum) (resized maximum table) next h.1 maxima refl h.4
