-- How many octets of a body may still come.
use Rattle.std.specs.Prelude.{ℕ, ◌-◌, ◌≤◌, Option, Some, None}

-- so many octets may come; without a declared length any number may
abbrev pub MayCome : Option ℕ → ℕ → Type 0
MayCome None octets = Unit {0}
MayCome (Some left) octets = octets ≤ left

-- what may come behind them
abbrev pub left_after : Option ℕ → ℕ → Option ℕ
left_after None octets = None
left_after (Some left) octets = Some (left - octets)
