-- What is written is the shortest text.
use Rattle.std.proofs.Common.{◌≡◌, ℕ, zero, suc, ◌+◌, ◌-◌, ◌*◌, ◌/◌, ◌%◌, ◌^◌, ◌<◌, ◌≤◌, ◌⊎◌, List, [], ◌∷◌, ◌++◌, length, take, slice_set, refl, ap, sym, ◌∙◌, subst, inl, inr, arith, add-one, length-set, Result, Ok, Err, OnOk, OnErr, is_ok, if◌then◌else◌}
use Rattle.std.proofs.Math.Nat.{pow-succ', pow-le-pow_right}
use Rattle.std.proofs.Math.Seq.{take-suc-set}
use Rattle.std.proofs.lemmas.List.{length-take-le, append-nil}
use Rattle.std.proofs.lemmas.Bool.{cases_lt}
use Rattle.std.proofs.lemmas.Nat.{pow_pos}
use Rattle.model.specs.Integers.{AreGroups, groups_value, IsInt}
use Rattle.hpack_int.specs.Reading.{AreSet}
use Rattle.hpack_int.specs.Writing.{IsShortestInt, AreGroupsOf, Writes}

-- what the loop of the groups keeps
pub record Dividing (value rest count : ℕ) (groups : List ℕ) : Type 0 where
  pub five : length groups ≡ 5
  pub few : count ≤ 4
  pub are_set : AreSet (take count groups)
  pub sum : groups_value (take count groups) + rest * 128 ^ count ≡ value
  pub some : (count ≡ 0) ⊎ (1 ≤ rest)

value_last : (xs : List ℕ) (x : ℕ) → groups_value (xs ++ x ∷ []) ≡ groups_value xs + x % 128 * 128 ^ length xs
value_last [] x = omega arith
value_last (y ∷ xs) x =
    let rest = value_last xs x in
    let power : 128 ^ suc (length xs) ≡ 128 * 128 ^ length xs = pow-succ' 128 (length xs) in
    rw power (omega (arith, rest))

set_last : (xs : List ℕ) (x : ℕ) → AreSet xs → 128 ≤ x → AreSet (xs ++ x ∷ [])
set_last [] x are h = (h, tt)
set_last (y ∷ xs) x are h = (are.0, set_last xs x are.1 h)

ends_last : (xs : List ℕ) (x : ℕ) → AreSet xs → x < 128 → AreGroups (xs ++ x ∷ [])
ends_last [] x are h = h
ends_last (y ∷ []) x are h = (are.0, h)
ends_last (y ∷ z ∷ xs) x are h = (are.0, ends_last (z ∷ xs) x are.1 h)

at_least : (rest power : ℕ) → 1 ≤ rest → power ≤ rest * power
at_least zero power h = absurd (omega arith)
at_least (suc rest) power h = omega arith

-- five groups suffice
few_more : (count rest done value : ℕ) → done + rest * 128 ^ count ≡ value → value < 4294967296 → 128 ≤ rest → count ≤ 4 → count + 1 ≤ 4
few_more count rest done value sum fits large few = elim (cases_lt count 4) [
  | inl less ↦ omega arith
  | inr more ↦ (let is_four : count ≡ 4 = omega arith in
      let at_four : done + rest * 128 ^ 4 ≡ value = subst (λ n. done + rest * 128 ^ n ≡ value) is_four sum in
      absurd (omega (arith, at_four)))
]

pub divides : (value rest count : ℕ) (groups : List ℕ) → value < 4294967296 → 128 ≤ rest → Dividing value rest count groups
    → Dividing value (rest / 128) (count + 1) (slice_set groups count (rest % 128 + 128))
divides value rest count groups fits large d =
    let x : ℕ = rest % 128 + 128 in
    let few = d.few in
    let five = d.five in
    let front : take (count + 1) (slice_set groups count x) ≡ take count groups ++ x ∷ [] = rw add-one (take-suc-set groups count x (omega (arith, five, few))) in
    let long : length (take count groups) ≡ count = length-take-le count groups (omega (arith, five, few)) in
    let total : groups_value (take count groups ++ x ∷ []) ≡ groups_value (take count groups) + x % 128 * 128 ^ count = subst (λ n. groups_value (take count groups ++ x ∷ []) ≡ groups_value (take count groups) + x % 128 * 128 ^ n) long (value_last (take count groups) x) in
    record {
      five = length-set groups count x ∙ five;
      few = few_more count rest (groups_value (take count groups)) value d.sum fits large few;
      are_set = subst AreSet (sym front) (set_last (take count groups) x d.are_set (omega arith));
      sum = ap (λ g. groups_value g + rest / 128 * 128 ^ (count + 1)) front ∙ (
          let power : 128 ^ (count + 1) ≡ 128 * 128 ^ count = rw add-one (pow-succ' 128 count) in
          let low : x % 128 ≡ rest % 128 = omega arith in
          sum_step rest (128 ^ count) (128 ^ (count + 1)) (groups_value (take count groups)) (groups_value (take count groups ++ x ∷ [])) value d.sum power (subst (λ n. groups_value (take count groups ++ x ∷ []) ≡ groups_value (take count groups) + n * 128 ^ count) low total));
      some = inr (omega arith);
    }
  where
    sum_step : (rest power more done all value : ℕ) → done + rest * power ≡ value → more ≡ 128 * power → all ≡ done + rest % 128 * power → all + rest / 128 * more ≡ value
    sum_step rest power more done all value sum e f =
        let split : rest ≡ 128 * (rest / 128) + rest % 128 = omega arith in
        let spread : rest * power ≡ (128 * (rest / 128) + rest % 128) * power = ap (λ r. r * power) split in
        rw (e, f) (omega (arith, sum, spread))

pub divided : (value rest count : ℕ) (groups : List ℕ) → rest < 128 → Dividing value rest count groups
    → AreGroupsOf value (slice_set groups count rest) (count + 1)
divided value rest count groups small d =
    let few = d.few in
    let five = d.five in
    let front : take (count + 1) (slice_set groups count rest) ≡ take count groups ++ rest ∷ [] = rw add-one (take-suc-set groups count rest (omega (arith, five, few))) in
    let long : length (take count groups) ≡ count = length-take-le count groups (omega (arith, five, few)) in
    let low : rest % 128 ≡ rest = omega arith in
    record {
      some = omega arith;
      few = omega (arith, few);
      within = omega (arith, few, five, length-set groups count rest);
      are_groups = subst AreGroups (sym front) (ends_last (take count groups) rest d.are_set small);
      sum = ap groups_value front ∙ value_last (take count groups) rest ∙ ap (λ n. groups_value (take count groups) + rest % 128 * 128 ^ n) long ∙ ap (λ n. groups_value (take count groups) + n * 128 ^ count) low ∙ d.sum;
      fewest = elim d.some [
        | inl none ↦ inl (omega (arith, none))
        | inr some ↦ inr (let same : count + 1 - 1 ≡ count = omega arith in rw same (omega (arith, d.sum, at_least rest (128 ^ count) some)))
      ];
    }

-- a prefix has one of eight lengths
eight_cases : (P : ℕ → Type 0) → P 1 → P 2 → P 3 → P 4 → P 5 → P 6 → P 7 → P 8 → (n : ℕ) → 1 ≤ n → n ≤ 8 → P n
eight_cases P a b c d e f g h zero low high = absurd (omega arith)
eight_cases P a b c d e f g h (suc zero) low high = a
eight_cases P a b c d e f g h (suc (suc zero)) low high = b
eight_cases P a b c d e f g h (suc (suc (suc zero))) low high = c
eight_cases P a b c d e f g h (suc (suc (suc (suc zero)))) low high = d
eight_cases P a b c d e f g h (suc (suc (suc (suc (suc zero))))) low high = e
eight_cases P a b c d e f g h (suc (suc (suc (suc (suc (suc zero)))))) low high = f
eight_cases P a b c d e f g h (suc (suc (suc (suc (suc (suc (suc zero))))))) low high = g
eight_cases P a b c d e f g h (suc (suc (suc (suc (suc (suc (suc (suc zero)))))))) low high = h
eight_cases P a b c d e f g h (suc (suc (suc (suc (suc (suc (suc (suc (suc n))))))))) low high = absurd (omega arith)

-- the first octet: the bits above the prefix, and those of the prefix
pub record IsFirst (prefix high low : ℕ) : Type 0 where
  pub octet : high + low < 256
  pub low_bits : (high + low) % 2 ^ prefix ≡ low
  pub marked : (high + low) / 2 ^ prefix ≡ high / 2 ^ prefix

abbrev MakesFirst : ℕ → Type 0
MakesFirst prefix = (high low : ℕ) → high < 256 → high % 2 ^ prefix ≡ 0 → low < 2 ^ prefix → IsFirst prefix high low

pub first : (prefix : ℕ) → 1 ≤ prefix → prefix ≤ 8 → (high low : ℕ) → high < 256 → high % 2 ^ prefix ≡ 0 → low < 2 ^ prefix → IsFirst prefix high low
first = eight_cases MakesFirst
    (λ high low h e l. record { octet = omega arith; low_bits = omega arith; marked = omega arith })
    (λ high low h e l. record { octet = omega arith; low_bits = omega arith; marked = omega arith })
    (λ high low h e l. record { octet = omega arith; low_bits = omega arith; marked = omega arith })
    (λ high low h e l. record { octet = omega arith; low_bits = omega arith; marked = omega arith })
    (λ high low h e l. record { octet = omega arith; low_bits = omega arith; marked = omega arith })
    (λ high low h e l. record { octet = omega arith; low_bits = omega arith; marked = omega arith })
    (λ high low h e l. record { octet = omega arith; low_bits = omega arith; marked = omega arith })
    (λ high low h e l. record { octet = omega arith; low_bits = omega arith; marked = omega arith })

pub ones_first : (prefix : ℕ) → 1 ≤ prefix → prefix ≤ 8 → (high : ℕ) → high < 256 → high % 2 ^ prefix ≡ 0 → IsFirst prefix high (2 ^ prefix - 1)
ones_first prefix low most high h e = let some : 0 < 2 ^ prefix = pow_pos prefix in first prefix low most high (2 ^ prefix - 1) h e (omega arith)

int_some : (prefix : ℕ) (octets : List ℕ) (value : ℕ) → IsInt prefix octets value → 1 ≤ length octets
int_some prefix octets value (inl s) = omega (arith, ap length s.is)
int_some prefix octets value (inr s) = omega (arith, ap length s.is)

value_below : (g : List ℕ) → groups_value g < 128 ^ length g
value_below [] = omega arith
value_below (x ∷ g) =
    let rest = value_below g in
    let power : 128 ^ suc (length g) ≡ 128 * 128 ^ length g = pow-succ' 128 (length g) in
    rw power (omega (arith, rest))

-- fewer groups can't say the value
no_fewer : (value count : ℕ) (groups g : List ℕ) → AreGroupsOf value groups count → AreGroups g → groups_value g ≡ value → count ≤ length g
no_fewer value count groups [] p ends e = absurd ends
no_fewer value count groups (x ∷ g) p ends e = elim p.fewest [
  | inl one ↦ omega (arith, one)
  | inr large ↦ elim (cases_lt (length (x ∷ g)) count) [
    | inr enough ↦ enough
    | inl less ↦ (let some : 0 < 128 = omega arith in
        let fewer : length (x ∷ g) ≤ count - 1 = omega arith in
        let mono : 128 ^ length (x ∷ g) ≤ 128 ^ (count - 1) = pow-le-pow_right some fewer in
        let below : groups_value (x ∷ g) < 128 ^ length (x ∷ g) = value_below (x ∷ g) in
        absurd (omega (arith, mono, below, e, large)))
  ]
]

pub short_text : (prefix high value : ℕ) → value < 2 ^ prefix - 1 → IsFirst prefix high value → IsShortestInt prefix (high / 2 ^ prefix) ((high + value) ∷ []) value
short_text prefix high value less f = record {
  marked = record { int = inl (record { first = high + value; is = refl; low_bits = f.low_bits; not_ones = less }); marked = f.marked };
  shortest = λ other int. int_some prefix other value int;
}

pub long_text : (prefix high value count : ℕ) (groups : List ℕ) → 2 ^ prefix - 1 ≤ value → value < 4294967296 → IsFirst prefix high (2 ^ prefix - 1) → AreGroupsOf (value - (2 ^ prefix - 1)) groups count
    → length (take count groups) ≡ count → IsShortestInt prefix (high / 2 ^ prefix) ((high + (2 ^ prefix - 1)) ∷ take count groups) value
long_text prefix high value count groups least fits f p long = record {
  marked = record {
    int = inr (record {
      first = high + (2 ^ prefix - 1);
      groups = take count groups;
      is = refl;
      ones = f.low_bits;
      are_groups = p.are_groups;
      few = omega (arith, long, p.few);
      sum = omega (arith, p.sum);
      in_range = omega arith;
    });
    marked = f.marked;
  };
  shortest = shortest;
}
  where
    shortest : (other : List ℕ) → IsInt prefix other value → length ((high + (2 ^ prefix - 1)) ∷ take count groups) ≤ length other
    shortest other (inl s) = absurd (omega (arith, s.not_ones))
    shortest other (inr s) =
        let enough : count ≤ length s.groups = no_fewer (value - (2 ^ prefix - 1)) count groups s.groups p s.are_groups (omega (arith, s.sum)) in
        omega (arith, ap length s.is, enough, long)

-- a shift by a prefix loses nothing
pub exact : (prefix : ℕ) → prefix ≤ 8 → 1 * 2 ^ prefix % 4294967296 ≡ 2 ^ prefix
exact prefix most = let two : 0 < 2 = omega arith in let small : 2 ^ prefix ≤ 2 ^ 8 = pow-le-pow_right two most in omega (arith, small)

pub writes : (prefix high value : ℕ) (old new text : List ℕ) → new ≡ old ++ text → IsShortestInt prefix (high / 2 ^ prefix) text value → Writes prefix high value old new
writes prefix high value old new text e s = record { text = text; added = e; shortest = s }

pub long_writes : {U E : Type 0} (prefix high value count : ℕ) (groups copied old new : List ℕ) (r : Result U E) → 1 ≤ prefix → prefix ≤ 8 → high < 256 → high % 2 ^ prefix ≡ 0
    → value < 4294967296 → 1 * 2 ^ prefix % 4294967296 - 1 ≤ value → AreGroupsOf (value - (1 * 2 ^ prefix % 4294967296 - 1)) groups count → copied ≡ groups
    → new ≡ (if is_ok r then old ++ take (count + 1) ((high + (1 * 2 ^ prefix % 4294967296 - 1)) ∷ (copied ++ [])) else old) → OnOk r (Writes prefix high value old new)
long_writes prefix high value count groups copied old new (Err error) some most octet no_bit fits least p same is = tt
long_writes prefix high value count groups copied old new (Ok done) some most octet no_bit fits least p same is =
    let e = exact prefix most in
    let f = ones_first prefix some most high octet no_bit in
    let least_ones : 2 ^ prefix - 1 ≤ value = subst (λ n. n - 1 ≤ value) e least in
    let q : AreGroupsOf (value - (2 ^ prefix - 1)) groups count = subst (λ n. AreGroupsOf (value - (n - 1)) groups count) e p in
    let text : take (count + 1) ((high + (1 * 2 ^ prefix % 4294967296 - 1)) ∷ (copied ++ [])) ≡ (high + (2 ^ prefix - 1)) ∷ take count groups =
    rw (add-one, e, append-nil, same) refl in
    writes prefix high value old new _ (is ∙ ap (λ t. old ++ t) text)
    (long_text prefix high value count groups least_ones fits f q (length-take-le count groups p.within))

-- where a refused growth was due, no text of the value fits
pub no_room : {U E : Type 0} (prefix high value count capacity start : ℕ) (groups copied : List ℕ) (r : Result U E) → 1 ≤ prefix → prefix ≤ 8 → high < 256 → high % 2 ^ prefix ≡ 0
    → value < 4294967296 → 1 * 2 ^ prefix % 4294967296 - 1 ≤ value → AreGroupsOf (value - (1 * 2 ^ prefix % 4294967296 - 1)) groups count → copied ≡ groups
    → OnErr r (capacity < start + length (take (count + 1) ((high + (1 * 2 ^ prefix % 4294967296 - 1)) ∷ (copied ++ []))))
    → OnErr r ((text : List ℕ) → IsShortestInt prefix (high / 2 ^ prefix) text value → capacity < start + length text)
no_room prefix high value count capacity start groups copied (Ok done) some most octet no_bit fits least p same full = tt
no_room prefix high value count capacity start groups copied (Err error) some most octet no_bit fits least p same full =
    let e = exact prefix most in
    let f = ones_first prefix some most high octet no_bit in
    let least_ones : 2 ^ prefix - 1 ≤ value = subst (λ n. n - 1 ≤ value) e least in
    let q : AreGroupsOf (value - (2 ^ prefix - 1)) groups count = subst (λ n. AreGroupsOf (value - (n - 1)) groups count) e p in
    let written : take (count + 1) ((high + (1 * 2 ^ prefix % 4294967296 - 1)) ∷ (copied ++ [])) ≡ (high + (2 ^ prefix - 1)) ∷ take count groups =
    rw (add-one, e, append-nil, same) refl in
    let own = long_text prefix high value count groups least_ones fits f q (length-take-le count groups p.within) in
    λ text shortest. larger capacity start _ _ (length text) (ap length written) (own.shortest text shortest.marked.int) full
  where
    larger : (capacity start count length most : ℕ) → count ≡ length → length ≤ most → capacity < start + count → capacity < start + most
    larger capacity start count length most same within less = omega (arith, same, within, less)
