-- What limits make due.
use Rattle.std.proofs.Common.{◌≡◌, ℕ, ◌<◌, ◌≤◌, ◌==◌, nat_lt, min, Bool, true, false, if◌then◌else◌, List, [], ◌∷◌, ◌++◌, map, Option, Some, None, refl, ap, sym, ◌∙◌, subst, inl, inr, arith}
use Rattle.std.specs.Prelude.{unwrap_or, option_to_list}
use Rattle.std.specs.Option.{ForSome}
use Rattle.std.proofs.lemmas.Bool.{cases_lt, lt-ltb, le-ltb, eq-eqb, eqb-true}
use Rattle.std.proofs.lemmas.List.{map-append}
use Rattle.std.proofs.lemmas.List.Elements.{All-append, All-cons, All-nil, All-weaker, Contains-append_left, Contains-push}
use Rattle.model.specs.Limits.{first_maximum}
use Rattle.model.specs.Maxima.{counted, IsLeast, Maxima}
use Rattle.header_blocks.specs.Encoding.{limits_with, AreEndsOf, StandsFor}
use Rattle.header_blocks.specs.Due.{AreInRange, IsDue}
use Rattle.header_blocks.specs.declared.limits.Limits.{Limits}
use Rattle.header_blocks.specs.declared.limits.SizeUpdates.{SizeUpdates}

-- a maximum that is announced unless it is reached
abbrev pub unless : ℕ → ℕ → Option ℕ
unless reached maximum = if maximum == reached then None else Some maximum

listed : (b : Bool) (x : ℕ) → option_to_list (if b then None else Some x) ≡ (if b then [] else x ∷ [])
listed true x = refl
listed false x = refl

not_same : (a b : ℕ) → a < b → (a == b) ≡ false
not_same a b h = no (a == b) (λ e. let same : a ≡ b = eqb-true a b e in omega arith)
  where
    no : (t : Bool) → (t ≡ true → ⊥) → t ≡ false
    no true f = absurd (f refl)
    no false f = refl

-- the least is announced just where it is below the maximum
least_listed : (maximum least : ℕ) → option_to_list (unless maximum (min least maximum)) ≡ (if nat_lt least maximum then least ∷ [] else [])
least_listed maximum least = elim (cases_lt least maximum) [
  | inl less ↦ (let same : min least maximum ≡ least = omega arith in
      let yes : nat_lt least maximum ≡ true = lt-ltb least maximum less in
      let no : (least == maximum) ≡ false = not_same least maximum less in
      rw (yes, same, no) refl)
  | inr more ↦ (let same : min least maximum ≡ maximum = omega arith in
      let no : nat_lt least maximum ≡ false = le-ltb least maximum more in
      let yes : (maximum == maximum) ≡ true = eq-eqb maximum maximum refl in
      rw (no, same, yes) refl)
]

reached_by : (b : Bool) (x y : ℕ) → (b ≡ true → x ≡ y) → unwrap_or (if b then None else Some x) y ≡ x
reached_by true x y same = sym (same refl)
reached_by false x y same = refl

reaches : (reached maximum : ℕ) → unwrap_or (unless reached maximum) reached ≡ maximum
reaches reached maximum = reached_by (maximum == reached) maximum reached (eqb-true maximum reached)

reaches_least : (maximum least : ℕ) → unwrap_or (unless maximum (min least maximum)) maximum ≡ min least maximum
reaches_least maximum least = reaches maximum (min least maximum)

some_same : (x y : ℕ) → ◌≡◌ {A = Option ℕ} (Some x) (Some y) → x ≡ y
some_same x y e = cc

in_range : (b : Bool) (x : ℕ) → x ≤ first_maximum → ForSome (if b then None else Some x) (λ m. m ≤ first_maximum)
in_range true x h = λ y e. let clash : ◌≡◌ {A = Option ℕ} None (Some y) = e in cc
in_range false x h = λ y e. let same : x ≡ y = some_same x y e in omega (arith, same)

pub none_due : (maximum : ℕ) (due : SizeUpdates) → due ≡ record { least = None; last = None; reached = maximum } → IsDue maximum None due
none_due maximum due is = rw is (record {
  least = λ x e. let clash : ◌≡◌ {A = Option ℕ} None (Some x) = e in cc;
  last = λ x e. let clash : ◌≡◌ {A = Option ℕ} None (Some x) = e in cc;
  reached = refl;
  maxima = λ named e. rw e refl;
})

none_named : (least : ℕ) → IsLeast [] least → ⊥
none_named least p = let within = p.named.1 in omega (arith, within)

announced : (maximum : ℕ) (ends : Limits) (named : List ℕ) → AreEndsOf named ends
    → Maxima maximum named (option_to_list (unless maximum (min ends.least maximum)) ++ option_to_list (unless (min ends.least maximum) ends.last))
announced maximum ends [] p = absurd (none_named ends.least p.least)
announced maximum ends (limit ∷ named) p = record {
  least = ends.least;
  last = ends.last;
  is_least = p.least;
  is_last = p.last;
  is = ap (λ l. l ++ option_to_list (unless (min ends.least maximum) ends.last)) (least_listed maximum ends.least)
      ∙ ap (λ l. (if nat_lt ends.least maximum then ends.least ∷ [] else []) ++ l) (listed (ends.last == min ends.least maximum) ends.last);
}

pub some_due : (maximum : ℕ) (ends : Limits) (due : SizeUpdates) → AreInRange ends → due.least ≡ unless maximum (min ends.least maximum) → due.last ≡ unless (min ends.least maximum) ends.last → due.reached ≡ ends.last
    → IsDue maximum (Some ends) due
some_due maximum ends due range least last reached = record {
  least = subst (λ o. ForSome o (λ m. m ≤ first_maximum)) (sym least) (in_range (min ends.least maximum == maximum) (min ends.least maximum) (let h = range.least in omega (arith, h)));
  last = subst (λ o. ForSome o (λ m. m ≤ first_maximum)) (sym last) (in_range (ends.last == min ends.least maximum) ends.last range.last);
  reached = rw (least, last, reached, reaches_least maximum ends.least) (reaches (min ends.least maximum) ends.last);
  maxima = λ named p. rw (least, last) (announced maximum ends named p);
}

-- one limit more
one_least : (limit : ℕ) → IsLeast (limit ∷ []) limit
one_least limit = record { named = Contains-push [] limit; below = All-cons (λ n. limit ≤ n) limit [] (omega arith) (All-nil (λ n. limit ≤ n)) }

least_and : (numbers : List ℕ) (least limit : ℕ) → IsLeast numbers least → IsLeast (numbers ++ limit ∷ []) (min least limit)
least_and numbers least limit p = elim (cases_lt limit least) [
  | inl less ↦ (let same : min least limit ≡ limit = omega arith in rw same (record {
    named = Contains-push numbers limit;
    below = All-append (λ n. limit ≤ n) numbers (limit ∷ []) (All-weaker (λ n. least ≤ n) (λ n. limit ≤ n) (λ n h. omega arith) numbers p.below) (one_least limit).below;
  }))
  | inr more ↦ (let same : min least limit ≡ least = omega arith in rw same (record {
    named = Contains-append_left numbers (limit ∷ []) least p.named;
    below = All-append (λ n. least ≤ n) numbers (limit ∷ []) p.below (All-cons (λ n. least ≤ n) limit [] more (All-nil (λ n. least ≤ n)));
  }))
]

pub one_more_limit : (named : List ℕ) (before : Option Limits) (limit : ℕ) → StandsFor named before → AreEndsOf (named ++ limit ∷ []) (limits_with before limit)
one_more_limit named None limit none = rw none (record { least = one_least (counted limit); last = record { before = []; is = refl } })
one_more_limit named (Some ends) limit p = record {
  least = subst (λ l. IsLeast l (min ends.least (counted limit))) (sym (map-append counted named (limit ∷ []))) (least_and (map counted named) ends.least (counted limit) p.least);
  last = record { before = map counted named; is = map-append counted named (limit ∷ []) };
}

pub in_range_with : (before : Option Limits) (limit : ℕ) → ForSome before AreInRange → AreInRange (limits_with before limit)
in_range_with None limit h = record { least = omega arith; last = omega arith }
in_range_with (Some ends) limit h = record { least = omega arith; last = omega arith }
