-- Lemmas on the entries of a payload.
use Rattle.std.proofs.Common.{◌≡◌, ℕ, ◌+◌, ◌*◌, ◌-◌, ◌≤◌, ◌<◌, List, [], ◌∷◌, length, get_or, take, drop, refl, sym, arith, length-drop, subst}
use Rattle.std.proofs.lemmas.List.{take_rest}
use Rattle.std.specs.Prelude.{Option, Some, None, IfSome, true, false, cond, ◌==◌, map, unwrap_or}
use Rattle.std.specs.List.{last_or, filter}
use Rattle.model.specs.Limits.{greatest_window}
use Rattle.model.specs.SettingValues.{Setting, SettingsFault, settings_in, fault_of_setting, first_of_faults, first_fault, values_of, last_value, initial_window_size}

-- the entry in the first six octets
abbrev pub entry_at_front : List ℕ → Setting
entry_at_front xs = record { identifier = 256 * get_or xs 0 0 + get_or xs 1 0; value = 16777216 * get_or xs 2 0 + 65536 * get_or xs 3 0 + 256 * get_or xs 4 0 + get_or xs 5 0 }

-- six octets or more begin with an entry
first_of_six : (xs : List ℕ) → 6 ≤ length xs → settings_in xs ≡ entry_at_front xs ∷ settings_in (drop 6 xs)
first_of_six (a ∷ b ∷ c ∷ d ∷ e ∷ f ∷ more) h = refl
first_of_six (a ∷ b ∷ c ∷ d ∷ e ∷ []) h = absurd (omega arith)
first_of_six (a ∷ b ∷ c ∷ d ∷ []) h = absurd (omega arith)
first_of_six (a ∷ b ∷ c ∷ []) h = absurd (omega arith)
first_of_six (a ∷ b ∷ []) h = absurd (omega arith)
first_of_six (a ∷ []) h = absurd (omega arith)
first_of_six [] h = absurd (omega arith)

pub front_entry : (xs : List ℕ) → 6 ≤ length xs → settings_in xs ≡ entry_at_front xs ∷ settings_in (take (length xs - 6) (drop 6 xs))
front_entry xs h = rw (take_rest xs 6) (first_of_six xs h)

pub rest_is_shorter : (xs : List ℕ) → 6 ≤ length xs → length (take (length xs - 6) (drop 6 xs)) < length xs
rest_is_shorter xs h = rw (take_rest xs 6) (omega (arith, length-drop 6 xs))

-- fewer have none
pub no_entry : (xs : List ℕ) → length xs < 6 → settings_in xs ≡ []
no_entry (a ∷ b ∷ c ∷ d ∷ e ∷ f ∷ more) h = absurd (omega arith)
no_entry (a ∷ b ∷ c ∷ d ∷ e ∷ []) h = refl
no_entry (a ∷ b ∷ c ∷ d ∷ []) h = refl
no_entry (a ∷ b ∷ c ∷ []) h = refl
no_entry (a ∷ b ∷ []) h = refl
no_entry (a ∷ []) h = refl
no_entry [] h = refl

-- a faultless setting of the window is no more than the greatest
window_value : (setting : Setting) → (setting.identifier == initial_window_size) ≡ true → fault_of_setting setting ≡ None → setting.value ≤ greatest_window
window_value setting is e = grind arith

none_first : (o : Option SettingsFault) (later : List (Option SettingsFault)) → first_of_faults (o ∷ later) ≡ None → (o ≡ None) × (first_of_faults later ≡ None)
none_first None later e = (refl, e)
none_first (Some fault) later e = absurd (cc)

-- the last window that faultless settings name is no more than the greatest
pub window_in_range : (o : Option ℕ) (settings : List Setting) → IfSome o (λ v. v ≤ greatest_window) → first_fault settings ≡ None → IfSome (last_or o (values_of initial_window_size settings)) (λ v. v ≤ greatest_window)
window_in_range o [] h e = h
window_in_range o (setting ∷ settings) h e =
    let none = none_first (fault_of_setting setting) (map fault_of_setting settings) e in
    elim (setting.identifier == initial_window_size) as
    (λ b. (setting.identifier == initial_window_size) ≡ b → IfSome (last_or o (map (λ s. s.value) (cond b (setting ∷ filter (λ s. s.identifier == initial_window_size) settings) (filter (λ s. s.identifier == initial_window_size) settings)))) (λ v. v ≤ greatest_window)) [
      | true ↦ λ is. window_in_range (Some setting.value) settings (window_value setting is none.0) none.1
      | false ↦ λ is. window_in_range o settings h none.1
    ] refl

-- so is the one behind them, where the one before was
pub window_stays_in_range : (before : ℕ) (o : Option ℕ) (settings : List Setting) → before ≤ greatest_window → o ≡ last_value initial_window_size settings → first_fault settings ≡ None → unwrap_or o before ≤ greatest_window
window_stays_in_range before o settings h is e =
    unwrapped o (subst (λ w. IfSome w (λ v. v ≤ greatest_window)) (sym is) (window_in_range None settings tt e))
  where
    unwrapped : (w : Option ℕ) → IfSome w (λ v. v ≤ greatest_window) → unwrap_or w before ≤ greatest_window
    unwrapped None k = h
    unwrapped (Some v) k = k
