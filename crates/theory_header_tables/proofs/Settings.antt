-- The limit that holds behind more settings.
use Rattle.std.proofs.Common.{◌≡◌, ℕ, Bool, true, false, if◌then◌else◌, List, [], ◌∷◌, ◌++◌, refl, sym, ap, ◌∙◌}
use Rattle.std.specs.Prelude.{◌==◌, cond, map, Option, Some, None, unwrap_or}
use Rattle.std.specs.List.{filter, last_or}
use Rattle.model.specs.SettingValues.{Setting, values_of, last_value}
use Rattle.theory_header_tables.specs.State.{limit_and}

-- the last of two lists of values
last_of_both : (o : Option ℕ) (before : ℕ) (values : List ℕ) → unwrap_or (last_or o values) before ≡ unwrap_or (last_or None values) (unwrap_or o before)
last_of_both None before [] = refl
last_of_both (Some v) before [] = refl
last_of_both o before (v ∷ values) = last_of_both (Some v) before values ∙ sym (last_of_both (Some v) (unwrap_or o before) values)

-- what earlier settings gave stands until a later one gives it anew
later_values : (o : Option ℕ) (identifier before : ℕ) (earlier later : List Setting) → unwrap_or (last_or o (values_of identifier (earlier ++ later))) before ≡ unwrap_or (last_or None (values_of identifier later)) (unwrap_or (last_or o (values_of identifier earlier)) before)
later_values o identifier before [] later = last_of_both o before (values_of identifier later)
later_values o identifier before (s ∷ earlier) later =
    elim (s.identifier == identifier) as
    (λ b. unwrap_or (last_or o (map (λ (r : Setting). r.value) (cond b (s ∷ filter (λ (r : Setting). r.identifier == identifier) (earlier ++ later)) (filter (λ (r : Setting). r.identifier == identifier) (earlier ++ later))))) before
    ≡ unwrap_or (last_or None (values_of identifier later)) (unwrap_or (last_or o (map (λ (r : Setting). r.value) (cond b (s ∷ filter (λ (r : Setting). r.identifier == identifier) earlier) (filter (λ (r : Setting). r.identifier == identifier) earlier)))) before)) [
      | true ↦ later_values (Some s.value) identifier before earlier later
      | false ↦ later_values o identifier before earlier later
    ]

-- settings that are taken or not leave the limit that they name last, or the one before
pub limit_behind : (is_taken : Bool) (identifier before : ℕ) (earlier later : List Setting)
    → unwrap_or (last_value identifier (if is_taken then earlier ++ later else earlier)) before ≡ limit_and (unwrap_or (last_value identifier earlier) before) (if is_taken then values_of identifier later else [])
limit_behind true identifier before earlier later = later_values None identifier before earlier later
limit_behind false identifier before earlier later = refl

-- and so for the limits that were named
pub named_behind : (is_taken : Bool) (before named : List ℕ) → before ++ (if is_taken then named else []) ≡ (if is_taken then before ++ named else before)
named_behind true before named = refl
named_behind false before named = no_more before
  where
    no_more : (l : List ℕ) → l ++ [] ≡ l
    no_more [] = refl
    no_more (x ∷ l) = ap (λ t. x ∷ t) (no_more l)
