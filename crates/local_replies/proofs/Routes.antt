-- The first route that matches, by the test of a route.
use Rattle.std.proofs.Common.{◌≡◌, ℕ, suc, ◌+◌, Bool, true, false, eqb, ◌&&◌, ◌||◌, List, [], ◌∷◌, length, take, get_or, refl, sym, ap, ◌∙◌, arith, cond}
use Rattle.std.specs.Prelude.{Some, None, IsTrue, ◌↔◌, nat_lt, not}
use Rattle.std.specs.List.{list_any, position, position_or_len}
use Rattle.std.specs.Cmp.Lexicographic.{pointwise}
use Rattle.std.proofs.lemmas.Bool.Decides.{nat_tests}
use Rattle.std.proofs.lemmas.Option.{slice_get-get_or, get_or_from_slice_get}
use Rattle.std.proofs.lemmas.List.Quantifiers.{position-Some}
use Rattle.model.specs.Setup.{Route, Matches, IsFirstMatch}
use Rattle.model.specs.Causes.{is_front_of, is_match}
use Rattle.model.proofs.RouteLaws.{matches_is, is_matches}

-- the test of a front is std's
pub front_told : (front text : List ℕ) → pointwise eqb front (take (length front) text) ≡ is_front_of front text
front_told [] text = refl
front_told (octet ∷ octets) [] = refl
front_told (octet ∷ octets) (first ∷ rest) = ap (λ b. eqb octet first && b) (front_told octets rest)

-- the test of a route tells whether it matches
pub match_told : (b : Bool) (route : Route) (authority path : List ℕ) → b ≡ is_match authority path route → IsTrue b ↔ Matches route authority path
match_told b route authority path e = ((λ t. matches_is authority path route (sym e ∙ t)), (λ m. e ∙ is_matches authority path route m))

-- a place is within a list just where one passes
found_told : {X : Type 0} (test : X → Bool) (xs : List X) → nat_lt (position_or_len test xs) (length xs) ≡ list_any test xs
found_told test [] = refl
found_told test (x ∷ xs) = by_test (test x) (found_told test xs)
  where
    by_test : (t : Bool) → nat_lt (position_or_len test xs) (length xs) ≡ list_any test xs → nat_lt (cond (not t) (1 + position_or_len test xs) 0) (suc (length xs)) ≡ (t || list_any test xs)
    by_test true more = grind (arith, nat_tests)
    by_test false more = grind (arith, nat_tests)

pub none_found : {X : Type 0} (test : X → Bool) (xs : List X) → position test xs ≡ None → list_any test xs ≡ false
none_found test xs e = by_test (nat_lt (position_or_len test xs) (length xs)) (found_told test xs) e
  where
    by_test : (t : Bool) → t ≡ list_any test xs → cond t (Some (position_or_len test xs)) None ≡ None → list_any test xs ≡ false
    by_test true told none = absurd (cc)
    by_test false told none = sym told

-- the place that is found is that of the first route that matches
pub first_found : (routes : List Route) (authority path : List ℕ) (place : ℕ) → position (is_match authority path) routes ≡ Some place → IsFirstMatch routes authority path place
first_found routes authority path place e =
    let any : Route = record { authority = []; path = [] } in
    let facts = position-Some (is_match authority path) routes place any e in
    record {
      route = get_or routes place any;
      found = slice_get-get_or routes place any facts.0;
      matches = matches_is authority path (get_or routes place any) facts.1;
      none_before = λ earlier before other found m.
          let same = get_or_from_slice_get routes earlier other any found in
          let clash : false ≡ true = sym (facts.2 earlier before) ∙ ap (is_match authority path) same ∙ is_matches authority path other m in
          cc;
    }
