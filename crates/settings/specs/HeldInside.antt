-- How many octets lie in this crate's types. Each count takes the struct apart by the names of all its fields, and counts each by its type: what lies in
-- one field more has to be counted here.
use Rattle.std.specs.Prelude.{ℕ}
use Rattle.settings.specs.declared.Settings.TheInside.{Inside as SettingsInside}

-- none in a number
abbrev pub in_number : ℕ → ℕ
in_number number = 0

abbrev pub in_settings : SettingsInside → ℕ
in_settings = λ record { initial_window = initial_window }. in_number initial_window
