-- What the tests of a head that fits say of it.
use Rattle.std.proofs.Common.{◌≡◌, ℕ, ◌≤◌, Bool, true, false, not, ◌&&◌, List, [], ◌∷◌, ◌++◌, refl, ap, ◌∙◌}
use Rattle.std.specs.Prelude.{Option, Some, None, codes}
use Rattle.std.specs.List.{list_any}
use Rattle.std.proofs.lemmas.Bool.{le-ltb}
use Rattle.model.specs.Messages.{Field}
use Rattle.model.specs.Http2.{is_connect, declared_length, authority_of, path_of}
use Rattle.model.specs.Tables.{total_size}
use Rattle.model.specs.Setup.{Setup, Route, IsFirstMatch}
use Rattle.model.specs.Malformed.{carried_by, is_malformed_block}
use Rattle.model.specs.Causes.{Cause, are_large, has_field, declares_past, cause_if, first_cause, cause_of_head, is_match, is_routed}
use Rattle.model.specs.Limits.{largest_fields}
use Rattle.model.specs.Causes.Cause.{LargeFields, Tunnel, Expects, LargeBody, NoRoute}
use Rattle.model.proofs.RouteLaws.{match_has}
use Rattle.local_replies.specs.Openings.{is_bad_head, causes_without_routes}

-- ---- malformed or not

-- a head that fits isn't large
pub not_large : (fields : List Field) → total_size fields ≤ largest_fields → are_large fields ≡ false
not_large fields fits = le-ltb largest_fields (total_size fields) fits

-- one that passes isn't bad
pub passes : (fields : List Field) (ended : Bool) → is_malformed_block (carried_by [] false) fields ended ≡ false → is_bad_head fields ended ≡ false
passes fields ended e = ap (λ b. not (are_large fields) && b) e ∙ neither (not (are_large fields))
  where
    neither : (b : Bool) → (b && false) ≡ false
    neither true = refl
    neither false = refl

-- ---- the first cause

joined : (first later : List (Option Cause)) → first_cause (first ++ later) ≡ first_cause (first_cause first ∷ later)
joined [] later = refl
joined (None ∷ first) later = joined first later
joined (Some cause ∷ first) later = refl

-- one that isn't answered for what it says asks for no tunnel
pub no_tunnel : (most : ℕ) (fields : List Field) → first_cause (causes_without_routes most fields) ≡ None → is_connect fields ≡ false
no_tunnel most fields e = by_test (is_connect fields) (cause_if (has_field (codes "expect") fields) Expects ∷ cause_if (declares_past most (declared_length fields)) LargeBody ∷ []) e
  where
    by_test : (b : Bool) (later : List (Option Cause)) → first_cause (cause_if b Tunnel ∷ later) ≡ None → b ≡ false
    by_test true later none = absurd (cc)
    by_test false later none = refl

-- by the routes and the most octets that a gateway is set up with
module _ (setup : Setup) (routes : List Route) (most : ℕ) (fields : List Field) (by_routes : setup.routes ≡ routes) (by_most : setup.max_body ≡ most) (fits : total_size fields ≤ largest_fields) where
  abbrev without_route : List Route → List (Option Cause)
  without_route rs = cause_if (not (is_routed rs fields)) NoRoute ∷ []

  -- a head is answered for what it says, and else for want of a route
  told : cause_of_head setup fields ≡ first_cause (first_cause (causes_without_routes most fields) ∷ without_route routes)
  told =
      ap (λ b. first_cause (cause_if b LargeFields ∷ causes_without_routes setup.max_body fields ++ without_route setup.routes)) (not_large fields fits)
      ∙ ap (λ m. first_cause (causes_without_routes m fields ++ without_route setup.routes)) by_most
      ∙ ap (λ rs. first_cause (causes_without_routes most fields ++ without_route rs)) by_routes
      ∙ joined (causes_without_routes most fields) (without_route routes)

  pub answered : (cause : Cause) → first_cause (causes_without_routes most fields) ≡ Some cause → cause_of_head setup fields ≡ Some cause
  answered cause e = told ∙ ap (λ c. first_cause (c ∷ without_route routes)) e

  pub unrouted : first_cause (causes_without_routes most fields) ≡ None → list_any (is_match (authority_of fields) (path_of fields)) routes ≡ false → cause_of_head setup fields ≡ Some NoRoute
  unrouted e none = told ∙ ap (λ c. first_cause (c ∷ without_route routes)) e ∙ ap (λ b. first_cause (cause_if (not b) NoRoute ∷ [])) none

  pub forwarded : (place : ℕ) → first_cause (causes_without_routes most fields) ≡ None → IsFirstMatch routes (authority_of fields) (path_of fields) place → cause_of_head setup fields ≡ None
  forwarded place e first =
      told ∙ ap (λ c. first_cause (c ∷ without_route routes)) e
      ∙ ap (λ b. first_cause (cause_if (not b) NoRoute ∷ [])) (match_has routes (authority_of fields) (path_of fields) place first.route first.found first.matches)
