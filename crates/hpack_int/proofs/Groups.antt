-- Groups of seven bits: what more of them count for, and where they end.
use Rattle.std.proofs.Common.{◌≡◌, ℕ, zero, suc, ◌+◌, ◌-◌, ◌*◌, ◌%◌, ◌^◌, ◌<◌, ◌≤◌, List, [], ◌∷◌, ◌++◌, length, take, drop, get_or, refl, ap, sym, ◌∙◌, subst, inl, inr, arith, length-take, length-append}
use Rattle.std.proofs.Math.Nat.{pow-succ', pow-le-pow_right, zero-mod}
use Rattle.std.proofs.lemmas.Grind.{common_steps}
use Rattle.std.proofs.lemmas.List.{append-nil}
use Rattle.std.proofs.Math.Seq.{take-length}
use Rattle.model.specs.Integers.{AreGroups, groups_value, greatest, IsInt}
use Rattle.hpack_int.specs.Reading.{AreSet, Reads, ReadsGroups, NeedsMore}
use Rattle.hpack_int.specs.declared.IntRead.{IntRead}
use Rattle.hpack_int.specs.declared.IntRead.TheVariants.{Value, More, Bad}

-- one more group
pub value_more : (groups : List ℕ) (place : ℕ) → place < length groups
    → groups_value (take (suc place) groups) ≡ groups_value (take place groups) + get_or groups place 0 % 128 * 128 ^ place
value_more [] place h = absurd (omega arith)
value_more (group ∷ groups) zero h = omega arith
value_more (group ∷ groups) (suc place) h =
    let rest : groups_value (take (suc place) groups) ≡ groups_value (take place groups) + get_or groups place 0 % 128 * 128 ^ place = value_more groups place (omega arith) in
    let power : 128 ^ suc place ≡ 128 * 128 ^ place = pow-succ' 128 place in
    rw power (omega (arith, rest))

-- groups that end don't stand among those that are set
set_before_end : (n : ℕ) (xs more g rest : List ℕ) → xs ++ more ≡ g ++ rest → n ≤ length xs → AreSet (take n xs) → AreGroups g → n < length g
set_before_end n xs more [] rest e h are ends = absurd ends
set_before_end zero xs more (a ∷ g) rest e h are ends = omega arith
set_before_end (suc n) [] more (a ∷ g) rest e h are ends = absurd (omega arith)
set_before_end (suc n) (x ∷ xs) more (a ∷ []) rest e h are ends = let same : x ≡ a = cc in absurd (omega (arith, are.0))
set_before_end (suc n) (x ∷ xs) more (a ∷ b ∷ g) rest e h are ends =
    let tails : xs ++ more ≡ (b ∷ g) ++ rest = cc in
    let less : n < length (b ∷ g) = set_before_end n xs more (b ∷ g) rest tails (omega arith) are.1 ends.1 in
    omega (arith, less)

-- the first groups count for no more than all
value_front : (n : ℕ) (xs more g rest : List ℕ) → xs ++ more ≡ g ++ rest → n ≤ length xs → n ≤ length g → groups_value (take n xs) ≤ groups_value g
value_front zero xs more g rest e h k = omega arith
value_front (suc n) [] more g rest e h k = absurd (omega arith)
value_front (suc n) (x ∷ xs) more [] rest e h k = absurd (omega arith)
value_front (suc n) (x ∷ xs) more (a ∷ g) rest e h k =
    let same : x ≡ a = cc in
    let tails : xs ++ more ≡ g ++ rest = cc in
    let less : groups_value (take n xs) ≤ groups_value g = value_front n xs more g rest tails (omega arith) (omega arith) in
    rw same (omega (arith, less))

-- a last group of zeros ends groups that are set
zero_ends : (xs : List ℕ) → AreSet xs → AreGroups (xs ++ 0 ∷ [])
zero_ends [] are = omega arith
zero_ends (x ∷ []) are = (are.0, omega arith)
zero_ends (x ∷ y ∷ xs) are = (are.0, zero_ends (y ∷ xs) are.1)

-- four groups count for little
four_are_small : (xs : List ℕ) → length xs < 5 → groups_value (xs ++ 0 ∷ []) ≤ 268435455
four_are_small [] h = omega arith
four_are_small (a ∷ []) h = omega arith
four_are_small (a ∷ b ∷ []) h = omega arith
four_are_small (a ∷ b ∷ c ∷ []) h = omega arith
four_are_small (a ∷ b ∷ c ∷ d ∷ []) h = omega arith
four_are_small (a ∷ b ∷ c ∷ d ∷ e ∷ xs) h = absurd (omega arith)

length_four : (xs : List ℕ) → length xs < 5 → length (xs ++ 0 ∷ []) ≤ 5
length_four xs h = grind (arith, common_steps)

module _ (prefix ones first : ℕ) (groups : List ℕ) (is_ones : first % 2 ^ prefix ≡ ones) (of_prefix : 2 ^ prefix - 1 ≡ ones) (small : ones ≤ 255) where
  -- a text behind a prefix of ones has groups
  none : (more front rest : List ℕ) (value : ℕ) → (first ∷ groups) ++ more ≡ front ++ rest
      → ((g : List ℕ) → groups ++ more ≡ g ++ rest → AreGroups g → length g ≤ 5 → ones + groups_value g ≤ greatest → ⊥)
      → IsInt prefix front value → ⊥
  none more front rest value e never (inl s) =
      let whole : (first ∷ groups) ++ more ≡ (s.first ∷ []) ++ rest = e ∙ ap (λ o. o ++ rest) s.is in
      let same : s.first ≡ first = cc in
      let low : value ≡ ones = sym s.low_bits ∙ ap (λ f. f % 2 ^ prefix) same ∙ is_ones in
      omega (arith, low, of_prefix, s.not_ones)
  none more front rest value e never (inr s) =
      let whole : (first ∷ groups) ++ more ≡ (s.first ∷ s.groups) ++ rest = e ∙ ap (λ o. o ++ rest) s.is in
      let tails : groups ++ more ≡ s.groups ++ rest = cc in
      never s.groups tails s.are_groups s.few (omega (arith, s.sum, s.in_range, of_prefix))

  pub reads : (r : IntRead) → ReadsGroups ones groups r → Reads prefix (first ∷ groups) r
  reads (Value value used) p = record {
    within = omega (arith, p.within);
    text =
        let far : suc (used - 1) ≡ used = omega (arith, p.some) in
        subst (λ u. IsInt prefix (take u (first ∷ groups)) value) far (inr (record {
          first = first;
          groups = take (used - 1) groups;
          is = refl;
          ones = is_ones ∙ sym of_prefix;
          are_groups = p.are_groups;
          few = simp length-take (omega (arith, p.few));
          sum = ap (λ o. o + groups_value (take (used - 1) groups)) of_prefix ∙ p.sum;
          in_range = p.in_range;
        }));
  }
  reads More p = record {
    no_front = λ front rest value e int. none [] front rest value (append-nil (first ∷ groups) ∙ e) (λ g e2 ends few fits.
        let all : AreSet (take (length groups) groups) = subst AreSet (sym (take-length groups)) p.are_set in
        let less : length groups < length g = set_before_end (length groups) groups [] g rest e2 (omega arith) all ends in
        let lengths : length groups ≡ length g + length rest = sym (ap length (append-nil groups)) ∙ ap length e2 ∙ length-append g rest in
        omega (arith, less, lengths)) int;
    more = 0 ∷ [];
    value = ones + groups_value (groups ++ 0 ∷ []);
    continued = inr (record {
      first = first;
      groups = groups ++ 0 ∷ [];
      is = refl;
      ones = is_ones ∙ sym of_prefix;
      are_groups = zero_ends groups p.are_set;
      few = length_four groups p.few;
      sum = ap (λ o. o + groups_value (groups ++ 0 ∷ [])) of_prefix;
      in_range = omega (arith, four_are_small groups p.few);
    });
  }
  reads Bad (inl p) = λ more front rest value e int. none more front rest value e (λ g e2 ends few fits. let less = set_before_end 5 groups more g rest e2 p.many p.are_set ends in omega (arith, less)) int
  reads Bad (inr p) = λ more front rest value e int. none more front rest value e (λ g e2 ends few fits.
      let less : p.place < length g = set_before_end p.place groups more g rest e2 (omega (arith, p.within)) p.are_set ends in
      let counts : groups_value (take (p.place + 1) groups) ≤ groups_value g = value_front (p.place + 1) groups more g rest e2 (omega (arith, p.within)) (omega (arith, less)) in
      omega (arith, counts, p.over)) int

-- a prefix of one to eight bits
pub powers : (prefix : ℕ) → 1 ≤ prefix → prefix ≤ 8 → (2 ≤ 2 ^ prefix) × (2 ^ prefix ≤ 256)
powers prefix low high =
    let two : 0 < 2 = omega arith in
    (pow-le-pow_right two low, pow-le-pow_right two high)

-- a remainder that is the greatest
all_ones : (first n : ℕ) → 2 ≤ n → n - 1 ≤ first % n → first % n ≡ n - 1
all_ones first n some h = omega arith

-- octets with a first one
split_first : (octets : List ℕ) → 1 ≤ length octets → octets ≡ get_or octets 0 0 ∷ take (length octets - 1) (drop 1 octets)
split_first [] h = absurd (omega arith)
split_first (first ∷ groups) h =
    let same : length groups ≡ length (first ∷ groups) - 1 = omega arith in
    rw (← same) (rw take-length refl)

-- what `read` answers behind a prefix of ones
pub reads_groups : (prefix : ℕ) (octets : List ℕ) (r : IntRead) → 1 ≤ prefix → prefix ≤ 8 → 1 ≤ length octets
    → 1 * 2 ^ prefix % 18446744073709551616 - 1 ≤ get_or octets 0 0 % (1 * 2 ^ prefix % 18446744073709551616 - 1 + 1)
    → ReadsGroups (1 * 2 ^ prefix % 18446744073709551616 - 1) (take (length octets - 1) (drop 1 octets)) r → Reads prefix octets r
reads_groups prefix octets r low high some are_ones p =
    let bounds = powers prefix low high in
    let exact : 1 * 2 ^ prefix % 18446744073709551616 ≡ 2 ^ prefix = omega (arith, bounds.0, bounds.1) in
    let whole : 2 ^ prefix - 1 + 1 ≡ 2 ^ prefix = omega (arith, bounds.0) in
    let first : ℕ = get_or octets 0 0 in
    let at_least : 2 ^ prefix - 1 ≤ first % (2 ^ prefix - 1 + 1) = subst (λ n. n - 1 ≤ first % (n - 1 + 1)) exact are_ones in
    let at_least_ones : 2 ^ prefix - 1 ≤ first % 2 ^ prefix = subst (λ n. 2 ^ prefix - 1 ≤ first % n) whole at_least in
    let are : first % 2 ^ prefix ≡ 2 ^ prefix - 1 = all_ones first (2 ^ prefix) bounds.0 at_least_ones in
    subst (λ o. Reads prefix o r) (sym (split_first octets some))
    (reads prefix (2 ^ prefix - 1) (get_or octets 0 0) (take (length octets - 1) (drop 1 octets)) are refl (omega (arith, bounds.1)) r (subst (λ n. ReadsGroups (n - 1) (take (length octets - 1) (drop 1 octets)) r) exact p))

two_at_least : (prefix : ℕ) → 1 ≤ prefix → 2 ≤ 2 ^ prefix
two_at_least prefix low = let two : 0 < 2 = omega arith in pow-le-pow_right two low

no_text : (prefix : ℕ) (front rest : List ℕ) (value : ℕ) → [] ≡ front ++ rest → IsInt prefix front value → ⊥
no_text prefix front rest value e (inl s) = let first : [] ≡ s.first ∷ rest = e ∙ ap (λ o. o ++ rest) s.is in cc
no_text prefix front rest value e (inr s) = let first : [] ≡ s.first ∷ (s.groups ++ rest) = e ∙ ap (λ o. o ++ rest) s.is in cc

-- what `read` answers where there is nothing
pub reads_nothing : (prefix : ℕ) (octets : List ℕ) → 1 ≤ prefix → length octets < 1 → NeedsMore prefix octets
reads_nothing prefix [] low none = record {
  no_front = λ front rest value e int. no_text prefix front rest value e int;
  more = 0 ∷ [];
  value = 0;
  continued = inl (record { first = 0; is = refl; low_bits = zero-mod (2 ^ prefix); not_ones = omega (arith, two_at_least prefix low) });
}
reads_nothing prefix (first ∷ octets) low none = absurd (omega arith)
