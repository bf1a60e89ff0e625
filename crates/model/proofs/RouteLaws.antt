-- The test of routes tells which requests have one.
use Rattle.std.proofs.Common.{◌≡◌, ℕ, zero, suc, ◌<◌, Bool, true, false, ◌==◌, ◌&&◌, ◌||◌, List, [], ◌∷◌, ◌++◌, refl, sym, ap, ◌∙◌, subst, arith, inl, inr, ◌⊎◌}
use Rattle.std.specs.Prelude.{Option, Some, codes, bytes_eq, slice_get}
use Rattle.std.specs.List.{list_any}
use Rattle.std.proofs.lemmas.Bool.{cases_Bool}
use Rattle.std.proofs.lemmas.Bool.Decides.{eqb_tells}
use Rattle.std.proofs.lemmas.Slice.Eq.{bytes_eq-Decides}
use Rattle.model.specs.Octets.{IsFront, is_empty, lower}
use Rattle.model.specs.Setup.{Route, IsForAuthority, IsForPath, Matches, IsFirstMatch}
use Rattle.model.specs.Causes.{is_front_of, is_match}
use Rattle.model.proofs.MalformedLaws.{left_true, right_true, both_true}

-- ---- tests

either_true : (a b : Bool) → (a || b) ≡ true → (a ≡ true) ⊎ (b ≡ true)
either_true true b e = inl refl
either_true false b e = inr e

true_either : (a b : Bool) → (a ≡ true) ⊎ (b ≡ true) → (a || b) ≡ true
true_either a b (inl p) = ap (λ x. x || b) p
true_either true b (inr p) = refl
true_either false b (inr p) = p

empty_is : (text : List ℕ) → is_empty text ≡ true → text ≡ []
empty_is [] e = refl
empty_is (o ∷ os) e = let clash : false ≡ true = e in cc

same_text : (a b : List ℕ) → bytes_eq a b ≡ true → a ≡ b
same_text a b e = (bytes_eq-Decides a b).0 e

text_same : (a b : List ℕ) → a ≡ b → bytes_eq a b ≡ true
text_same a b e = (bytes_eq-Decides a b).1 e

front_is : (front text : List ℕ) → is_front_of front text ≡ true → IsFront front text
front_is [] text e = record { rest = text; is = refl }
front_is (o ∷ os) [] e = let clash : false ≡ true = e in cc
front_is (o ∷ os) (p ∷ ps) e =
    let more = front_is os ps (right_true (o == p) (is_front_of os ps) e) in
    let same : o ≡ p = elim (eqb_tells o p) [ inl s ↦ s.1 | inr n ↦ absurd (let clash : false ≡ true = sym n.0 ∙ left_true (o == p) (is_front_of os ps) e in cc) ] in
    record { rest = more.rest; is = ap (λ x. x ∷ ps) (sym same) ∙ ap (λ l. o ∷ l) more.is }

is_front : (front rest : List ℕ) → is_front_of front (front ++ rest) ≡ true
is_front [] rest = refl
is_front (o ∷ os) rest = both_true (o == o) (is_front_of os (os ++ rest)) (elim (eqb_tells o o) [ inl s ↦ s.0 | inr n ↦ absurd (n.1 refl) ]) (is_front os rest)

-- ---- one route

pub matches_is : (authority path : List ℕ) (route : Route) → is_match authority path route ≡ true → Matches route authority path
matches_is authority path route e = (of_authority (either_true (is_empty route.authority) _ (left_true _ (is_front_of route.path path || bytes_eq path (codes "*") && bytes_eq route.path (codes "/")) e)), of_path (either_true (is_front_of route.path path) _ (right_true (is_empty route.authority || bytes_eq (lower route.authority) (lower authority)) _ e)))
  where
    of_authority : (is_empty route.authority ≡ true) ⊎ (bytes_eq (lower route.authority) (lower authority) ≡ true) → IsForAuthority route authority
    of_authority (inl p) = inl (empty_is route.authority p)
    of_authority (inr p) = inr (same_text (lower route.authority) (lower authority) p)

    of_path : (is_front_of route.path path ≡ true) ⊎ ((bytes_eq path (codes "*") && bytes_eq route.path (codes "/")) ≡ true) → IsForPath route path
    of_path (inl p) = inl (front_is route.path path p)
    of_path (inr p) = inr (same_text path (codes "*") (left_true (bytes_eq path (codes "*")) (bytes_eq route.path (codes "/")) p), same_text route.path (codes "/") (right_true (bytes_eq path (codes "*")) (bytes_eq route.path (codes "/")) p))

pub is_matches : (authority path : List ℕ) (route : Route) → Matches route authority path → is_match authority path route ≡ true
is_matches authority path route m =
    both_true (is_empty route.authority || bytes_eq (lower route.authority) (lower authority)) _ (true_either (is_empty route.authority) _ (of_authority m.0)) (true_either (is_front_of route.path path) _ (of_path m.1))
  where
    of_authority : IsForAuthority route authority → (is_empty route.authority ≡ true) ⊎ (bytes_eq (lower route.authority) (lower authority) ≡ true)
    of_authority (inl p) = inl (ap is_empty p)
    of_authority (inr p) = inr (text_same (lower route.authority) (lower authority) p)

    of_path : IsForPath route path → (is_front_of route.path path ≡ true) ⊎ ((bytes_eq path (codes "*") && bytes_eq route.path (codes "/")) ≡ true)
    of_path (inl p) = inl (ap (is_front_of route.path) p.is ∙ is_front route.path p.rest)
    of_path (inr p) = inr (both_true (bytes_eq path (codes "*")) (bytes_eq route.path (codes "/")) (text_same path (codes "*") p.0) (text_same route.path (codes "/") p.1))

-- ---- all routes

some_same : (a b : Route) → ◌≡◌ {A = Option Route} (Some a) (Some b) → a ≡ b
some_same a b e = cc

pub has_match : (routes : List Route) (authority path : List ℕ) → list_any (is_match authority path) routes ≡ true → (place : ℕ) × IsFirstMatch routes authority path place
has_match [] authority path e = let clash : false ≡ true = e in cc
has_match (r ∷ routes) authority path e = elim (cases_Bool (is_match authority path r)) [
  | inl p ↦ (0, record { route = r; found = refl; matches = matches_is authority path r p; none_before = λ earlier before. absurd (omega (arith, before)) })
  | inr p ↦ (let rest : list_any (is_match authority path) routes ≡ true = sym (ap (λ b. b || list_any (is_match authority path) routes) p) ∙ e in
      let more = has_match routes authority path rest in
      (suc more.0, record { route = more.1.route; found = more.1.found; matches = more.1.matches; none_before = none p more.0 more.1 }))
]
  where
    none : is_match authority path r ≡ false → (place : ℕ) → IsFirstMatch routes authority path place → (earlier : ℕ) → earlier < suc place → (other : Route) → slice_get (r ∷ routes) earlier ≡ Some other → Matches other authority path → ⊥
    none p place m zero lt other found is = let same : r ≡ other = some_same r other found in let clash : false ≡ true = sym p ∙ is_matches authority path r (subst (λ x. Matches x authority path) (sym same) is) in cc
    none p place m (suc earlier) lt other found is = m.none_before earlier (omega (arith, lt)) other found is

pub match_has : (routes : List Route) (authority path : List ℕ) (place : ℕ) (route : Route) → slice_get routes place ≡ Some route → Matches route authority path → list_any (is_match authority path) routes ≡ true
match_has [] authority path place route found m = cc
match_has (r ∷ routes) authority path zero route found m =
    let same : r ≡ route = some_same r route found in
    true_either (is_match authority path r) _ (inl (is_matches authority path r (subst (λ x. Matches x authority path) (sym same) m)))
match_has (r ∷ routes) authority path (suc place) route found m = true_either (is_match authority path r) _ (inr (match_has routes authority path place route found m))
