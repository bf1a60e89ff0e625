-- How many octets lie in this crate's types. Each count takes the struct apart by the names of all its fields, and counts each by its type: what lies in
-- one field more has to be counted here.
use Rattle.std.specs.Prelude.{ℕ, ℤ}
use Rattle.flow_control.specs.declared.Window.TheInside.{Inside as WindowInside}

-- none in a size, a number perhaps below zero
abbrev pub in_size : ℤ → ℕ
in_size size = 0

abbrev pub in_window : WindowInside → ℕ
in_window = λ record { size = size }. in_size size
