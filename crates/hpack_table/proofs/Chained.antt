-- Entries of a ring, chained by their hashes.
use Rattle.std.proofs.Common.{◌≡◌, ℕ, zero, suc, ◌+◌, ◌-◌, ◌%◌, ◌^◌, ◌<◌, ◌≤◌, ◌==◌, ◌⊎◌, nat_lt, Bool, true, false, if◌then◌else◌, List, [], ◌∷◌, ◌++◌, length, take, drop, set, slice_get, Option, Some, None, Result, Ok, Err, is_ok, refl, ap, sym, ◌∙◌, subst, inl, inr, arith, lt-ltb, eqb-true}
use Rattle.std.specs.Prelude.{replicate}
use Rattle.std.proofs.lemmas.Bool.{cases_lt}
use Rattle.std.proofs.lemmas.Option.{slice_get_past}
use Rattle.std.proofs.lemmas.List.{take-map, length-map, length-set}
use Rattle.std.proofs.Math.Seq.{take-append_seam}
use Rattle.hpack_table.specs.Chaining.{IsChained, IsNextOfHash, bucket, entries_since, hashes_of, step_from, with_number}
use Rattle.hpack_table.specs.declared.chains.Link.{Link}

pub no_chains : (newest : List ℕ) (added : ℕ) → IsChained newest added []
no_chains newest added = record { heads = λ place link e. cc; gaps = λ place later link other e f less same. cc }

-- a list that was changed by a slice of all of it
pub written_back : (old new : List ℕ) (count : ℕ) → length new ≡ length old → count ≡ length old → take count (new ++ drop (length new) old) ≡ new
written_back old new count same is =
    let all : count ≡ length new = is ∙ sym same in
    ap (λ n. take n (new ++ drop (length new) old)) all ∙ take-append_seam new (drop (length new) old)

-- numbers in their places
set_same : (numbers : List ℕ) (place number m : ℕ) → slice_get (set numbers place number) place ≡ Some m → m ≡ number
set_same [] place number m e = cc
set_same (x ∷ numbers) zero number m e = cc
set_same (x ∷ numbers) (suc place) number m e = set_same numbers place number m e

set_other : (numbers : List ℕ) (place other number : ℕ) → (other ≡ place → ⊥) → slice_get (set numbers place number) other ≡ slice_get numbers other
set_other [] place other number differs = refl
set_other (x ∷ numbers) zero zero number differs = absurd (differs refl)
set_other (x ∷ numbers) zero (suc other) number differs = refl
set_other (x ∷ numbers) (suc place) zero number differs = refl
set_other (x ∷ numbers) (suc place) (suc other) number differs = set_other numbers place other number (λ e. differs (ap suc e))

either : (P : List ℕ → Type 0) (b : Bool) (xs ys : List ℕ) → (b ≡ true → P xs) → (b ≡ false → P ys) → P (if b then xs else ys)
either P true xs ys p q = p refl
either P false xs ys p q = q refl

since_own : (added : ℕ) (o : Option ℕ) → added < 2 ^ 32 → ((m : ℕ) → o ≡ Some m → m ≡ added) → entries_since added o ≡ 0
since_own added None range own = refl
since_own added (Some m) range own = let is = own m refl in omega (arith, is, range)

noted_same : (numbers : List ℕ) (place number : ℕ) → number < 2 ^ 32 → entries_since number (slice_get (with_number numbers place number) place) ≡ 0
noted_same numbers place number range =
    either (λ ns. entries_since number (slice_get ns place) ≡ 0) (nat_lt place (length numbers)) (set numbers place number) numbers
    (λ e. since_own number (slice_get (set numbers place number) place) range (set_same numbers place number))
    (λ e. elim (cases_lt place (length numbers)) [
      | inl less ↦ (let clash : true ≡ false = sym (lt-ltb place (length numbers) less) ∙ e in cc)
      | inr past ↦ ap (entries_since number) (slice_get_past numbers place past)
    ])

pub noted_length : (numbers : List ℕ) (place number : ℕ) → length (with_number numbers place number) ≡ length numbers
noted_length numbers place number = either (λ ns. length ns ≡ length numbers) (nat_lt place (length numbers)) (set numbers place number) numbers (λ e. length-set numbers place number) (λ e. refl)

noted_other : (numbers : List ℕ) (place other number : ℕ) → (other ≡ place → ⊥) → slice_get (with_number numbers place number) other ≡ slice_get numbers other
noted_other numbers place other number differs =
    either (λ ns. slice_get ns other ≡ slice_get numbers other) (nat_lt place (length numbers)) (set numbers place number) numbers (λ e. set_other numbers place other number differs) (λ e. refl)

-- one entry more, and each stands at most one place further
wraps : (a m : ℕ) → ((a + 1) % 4294967296 + m) % 4294967296 ≤ (a + m) % 4294967296 + 1
wraps a m = omega arith

since_more : (added next : ℕ) (o : Option ℕ) → next ≡ (added + 1) % 2 ^ 32 → entries_since next o ≤ entries_since added o + 1
since_more added next None is = omega arith
since_more added next (Some number) is = let w = wraps added (4294967296 - number) in omega (arith, w, is)

cases_equal : (a b : ℕ) → (a ≡ b) ⊎ (a ≡ b → ⊥)
cases_equal a b = elim (cases_lt a b) [
  | inl less ↦ inr (λ e. omega (arith, less, e))
  | inr past ↦ elim (cases_lt b a) [
    | inl more ↦ inr (λ e. omega (arith, more, e))
    | inr low ↦ inl (omega (arith, past, low))
  ]
]

pub chained_more : (newest : List ℕ) (added next hash gap : ℕ) (links : List Link) (link : Link) → IsChained newest added links → next ≡ (added + 1) % 2 ^ 32 → link.hash ≡ hash → link.gap ≡ entries_since added (slice_get newest (bucket hash))
    → IsChained (with_number newest (bucket hash) next) next (link ∷ links)
chained_more newest added next hash gap links link c is is_hash is_gap = record { heads = heads; gaps = gaps }
  where
    own : entries_since next (slice_get (with_number newest (bucket hash) next) (bucket hash)) ≡ 0
    own = noted_same newest (bucket hash) next (omega (arith, is))

    heads : (place : ℕ) (entry : Link) → slice_get (link ∷ links) place ≡ Some entry → entries_since next (slice_get (with_number newest (bucket hash) next) (bucket entry.hash)) ≤ place
    heads zero entry e =
        let same : link ≡ entry = cc in
        let to : entry.hash ≡ hash = ap (λ (l : Link). l.hash) (sym same) ∙ is_hash in
        let here = ap (λ h. entries_since next (slice_get (with_number newest (bucket hash) next) (bucket h))) to ∙ own in
        omega (arith, here)
    heads (suc place) entry e = elim (cases_equal (bucket entry.hash) (bucket hash)) [
      | inl same ↦ (let here = ap (λ b. entries_since next (slice_get (with_number newest (bucket hash) next) b)) same ∙ own in omega (arith, here))
      | inr differs ↦ (let here = ap (entries_since next) (noted_other newest (bucket hash) (bucket entry.hash) next differs) in
          let more = since_more added next (slice_get newest (bucket entry.hash)) is in
          let before = c.heads place entry e in
          omega (arith, here, more, before))
    ]

    gaps : (place later : ℕ) (entry other : Link) → slice_get (link ∷ links) place ≡ Some entry → slice_get (link ∷ links) later ≡ Some other → place < later → bucket other.hash ≡ bucket entry.hash → place + 1 + entry.gap ≤ later
    gaps place zero entry other e f less same = absurd (omega (arith, less))
    gaps zero (suc later) entry other e f less same =
        let at : link ≡ entry = cc in
        let to : bucket other.hash ≡ bucket hash = same ∙ ap (λ (l : Link). bucket l.hash) (sym at) ∙ ap bucket is_hash in
        let head = c.heads later other f in
        let noted = ap (λ b. entries_since added (slice_get newest b)) to in
        let gap_is : entry.gap ≡ link.gap = ap (λ (l : Link). l.gap) (sym at) in
        omega (arith, head, noted, gap_is, is_gap)
    gaps (suc place) (suc later) entry other e f less same = let before = c.gaps place later entry other e f (omega (arith, less)) same in omega (arith, before)

-- where nothing was noted, all numbers begin with that of the newest entry
pub chained_made : (newest filled : List ℕ) (count added : ℕ) (links : List Link) → IsChained newest added links → added < 2 ^ 32 → filled ≡ replicate count added → IsChained filled added links
chained_made newest filled count added links c range is = record {
  heads = λ place link e.
      let here = since_own added (slice_get filled (bucket link.hash)) range (λ m f. replicated count (bucket link.hash) m (ap (λ ns. slice_get ns (bucket link.hash)) (sym is) ∙ f)) in
      omega (arith, here);
  gaps = c.gaps;
}
  where
    replicated : (n i m : ℕ) → slice_get (replicate n added) i ≡ Some m → m ≡ added
    replicated zero i m e = cc
    replicated (suc n) zero m e = cc
    replicated (suc n) (suc i) m e = replicated n i m e

-- the oldest go
got_front : (n : ℕ) (links : List Link) (place : ℕ) (link : Link) → slice_get (take n links) place ≡ Some link → slice_get links place ≡ Some link
got_front zero links place link e = cc
got_front (suc n) [] place link e = cc
got_front (suc n) (x ∷ links) zero link e = e
got_front (suc n) (x ∷ links) (suc place) link e = got_front n links place link e

pub chained_front : (newest : List ℕ) (added n : ℕ) (links kept : List Link) → IsChained newest added links → kept ≡ take n links → IsChained newest added kept
chained_front newest added n links kept c is =
    let front : IsChained newest added (take n links) = record {
      heads = λ place link e. c.heads place link (got_front n links place link e);
      gaps = λ place later link other e f less same. c.gaps place later link other (got_front n links place link e) (got_front n links later other f) less same;
    } in
    subst (IsChained newest added) (sym is) front

pub hashes_front : (n : ℕ) (links kept : List Link) → kept ≡ take n links → hashes_of kept ≡ take n (hashes_of links)
hashes_front n links kept is = ap hashes_of is ∙ sym (take-map (λ (link : Link). link.hash) n links)

-- an entry of a hash
record HasLink (links : List Link) (hash place : ℕ) : Type 0 where
  pub link : Link
  pub here : slice_get links place ≡ Some link
  pub is : link.hash ≡ hash

has_link : (links : List Link) (hash place : ℕ) → slice_get (hashes_of links) place ≡ Some hash → HasLink links hash place
has_link [] hash place e = cc
has_link (x ∷ links) hash zero e = record { link = x; here = refl; is = cc }
has_link (x ∷ links) hash (suc place) e = let rest = has_link links hash place e in record { link = rest.link; here = rest.here; is = rest.is }

-- the noted entry is the first
pub first_is : (newest : List ℕ) (added : ℕ) (links : List Link) (hash : ℕ) → IsChained newest added links → IsNextOfHash (hashes_of links) hash 0 (entries_since added (slice_get newest (bucket hash)))
first_is newest added links hash c = record {
  behind = omega arith;
  none = λ other low less e.
      let at = has_link links hash other e in
      let head = c.heads other at.link at.here in
      let noted = ap (λ h. entries_since added (slice_get newest (bucket h))) at.is in
      omega (arith, head, noted, less);
}

-- none stands in the gap
pub step_is : (newest : List ℕ) (added : ℕ) (links : List Link) (hash place : ℕ) (link : Link) → IsChained newest added links → slice_get links place ≡ Some link → IsNextOfHash (hashes_of links) hash (place + 1) (step_from link hash place)
step_is newest added links hash place link c here = stepped (bucket link.hash == bucket hash) refl
  where
    stepped : (b : Bool) → (bucket link.hash == bucket hash) ≡ b → IsNextOfHash (hashes_of links) hash (place + 1) (if b then place + 1 + link.gap else place + 1)
    stepped true e = record {
      behind = omega arith;
      none = λ other low less f.
          let at = has_link links hash other f in
          let same : bucket at.link.hash ≡ bucket link.hash = ap bucket at.is ∙ sym (eqb-true (bucket link.hash) (bucket hash) e) in
          let gap = c.gaps place other link at.link here at.here (omega (arith, low)) same in
          omega (arith, gap, less);
    }
    stepped false e = record { behind = omega arith; none = λ other low less f. absurd (omega (arith, low, less)) }

pub next_then : (hashes : List ℕ) (hash from place later : ℕ) → IsNextOfHash hashes hash from place → (slice_get hashes place ≡ Some hash → ⊥) → IsNextOfHash hashes hash (place + 1) later → IsNextOfHash hashes hash from later
next_then hashes hash from place later before here after = record {
  behind = let a = before.behind in let b = after.behind in omega (arith, a, b);
  none = λ other low less e. elim (cases_lt other place) [
    | inl under ↦ before.none other low under e
    | inr past ↦ elim (cases_lt place other) [
      | inl over ↦ after.none other (omega (arith, over)) less e
      | inr at ↦ (let same : other ≡ place = omega (arith, past, at) in here (subst (λ p. slice_get hashes p ≡ Some hash) same e))
    ]
  ];
}

pub other_hash : (links : List Link) (hash place : ℕ) (link : Link) → slice_get links place ≡ Some link → (link.hash ≡ hash → ⊥) → slice_get (hashes_of links) place ≡ Some hash → ⊥
other_hash links hash place link here differs e =
    let at = has_link links hash place e in
    let is : ◌≡◌ {A = Option Link} (Some link) (Some at.link) = sym here ∙ at.here in
    let same : link ≡ at.link = cc in
    differs (ap (λ (l : Link). l.hash) same ∙ at.is)

-- where nothing was noted before
pub made : {U E : Type 0} (r : Result U E) (old new : List ℕ) (count length_before added : ℕ) (links : List Link) → new ≡ (if is_ok r then take count old ++ replicate (count - length_before) added else old) → length old ≡ 0 → added < 2 ^ 32
    → IsChained old added links → IsChained new added links
made (Err error) old new count length_before added links is none range c = subst (λ ns. IsChained ns added links) (sym is) c
made (Ok done) old new count length_before added links is none range c = chained_made old new (count - length_before) added links c range (is ∙ ap (λ front. front ++ replicate (count - length_before) added) (no_front count old none))
  where
    no_front : (n : ℕ) (xs : List ℕ) → length xs ≡ 0 → take n xs ≡ []
    no_front zero xs e = refl
    no_front (suc n) [] e = refl
    no_front (suc n) (x ∷ xs) e = absurd (omega (arith, e))

pub within_hashes : (links : List Link) (hashes : List ℕ) (place : ℕ) → hashes_of links ≡ hashes → place < length hashes → place < length links
within_hashes links hashes place is less = let same : length links ≡ length hashes = sym (length-map links (λ (link : Link). link.hash)) ∙ ap length is in omega (arith, same, less)
