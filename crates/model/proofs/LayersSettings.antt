-- Settings are read as they are spelled, and apply in order.
use Rattle.std.proofs.Common.{◌≡◌, ℕ, ◌+◌, ◌*◌, ◌/◌, ◌%◌, ◌<◌, true, false, List, [], ◌∷◌, ◌++◌, refl, sym, ap, ◌∙◌, arith}
use Rattle.std.specs.Prelude.{◌==◌, cond, map, Option, Some, None, unwrap_or}
use Rattle.std.specs.List.{filter, last_or}
use Rattle.model.specs.Frames.{setting}
use Rattle.model.specs.SettingValues.{Setting, settings_in, values_of, initial_window_size, initial_window_after}

-- the octets of a number of two, and of four, say it
two_octets : (n : ℕ) → n < 65536 → 256 * (n / 256) + n % 256 ≡ n
two_octets n h = omega arith

four_octets : (n : ℕ) → n < 4294967296 → 16777216 * (n / 16777216) + 65536 * ((n / 65536) % 256) + 256 * ((n / 256) % 256) + n % 256 ≡ n
four_octets n h = omega arith

pub read_back : (s : Setting) (more : List ℕ) → s.identifier < 65536 → s.value < 4294967296 → settings_in (setting s.identifier s.value ++ more) ≡ s ∷ settings_in more
read_back s more hi hv =
    ap (λ (n : ℕ). let r : Setting = record { identifier = n; value = 16777216 * (s.value / 16777216) + 65536 * ((s.value / 65536) % 256) + 256 * ((s.value / 256) % 256) + s.value % 256 } in r ∷ settings_in more) (two_octets s.identifier hi)
    ∙ ap (λ (n : ℕ). let r : Setting = record { identifier = s.identifier; value = n } in r ∷ settings_in more) (four_octets s.value hv)

-- the last of two lists of values
last_of_both : (o : Option ℕ) (before : ℕ) (values : List ℕ) → unwrap_or (last_or o values) before ≡ unwrap_or (last_or None values) (unwrap_or o before)
last_of_both None before [] = refl
last_of_both (Some v) before [] = refl
last_of_both o before (v ∷ values) = last_of_both (Some v) before values ∙ sym (last_of_both (Some v) (unwrap_or o before) values)

-- what was given by the earlier settings stands until a later one gives it anew
later_values : (o : Option ℕ) (identifier before : ℕ) (earlier later : List Setting) → unwrap_or (last_or o (values_of identifier (earlier ++ later))) before ≡ unwrap_or (last_or None (values_of identifier later)) (unwrap_or (last_or o (values_of identifier earlier)) before)
later_values o identifier before [] later = last_of_both o before (values_of identifier later)
later_values o identifier before (s ∷ earlier) later =
    elim (s.identifier == identifier) as
    (λ b. unwrap_or (last_or o (map (λ r. r.value) (cond b (s ∷ filter (λ r. r.identifier == identifier) (earlier ++ later)) (filter (λ r. r.identifier == identifier) (earlier ++ later))))) before ≡ unwrap_or (last_or None (values_of identifier later)) (unwrap_or (last_or o (map (λ r. r.value) (cond b (s ∷ filter (λ r. r.identifier == identifier) earlier) (filter (λ r. r.identifier == identifier) earlier)))) before)) [
      | true ↦ later_values (Some s.value) identifier before earlier later
      | false ↦ later_values o identifier before earlier later
    ]

pub applied_in_order : (before : ℕ) (earlier later : List Setting) → initial_window_after before (earlier ++ later) ≡ initial_window_after (initial_window_after before earlier) later
applied_in_order before earlier later = later_values None initial_window_size before earlier later
