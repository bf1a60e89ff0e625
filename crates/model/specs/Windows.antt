-- Windows of flow control (RFC 9113, sections 5.2 and 6.9): how many octets of DATA may still be sent, or may still come.
-- A window is below zero where its first size was lowered under what was already sent (section 6.9.2).
use Rattle.std.specs.Prelude.{ℕ, ℤ, pos, negsuc, ◌+ℤ◌, ◌-ℤ◌, ◌≤ℤ◌, ◌<ℤ◌}
use Rattle.model.specs.Limits.{greatest_window}

-- The size is past the greatest.
abbrev pub IsPast : ℤ → Type 0
IsPast size = pos greatest_window <ℤ size

-- The size is above -2,147,483,648.
abbrev pub IsAboveLeast : ℤ → Type 0
IsAboveLeast size = negsuc greatest_window <ℤ size

-- What a window may be.
pub record IsSize (size : ℤ) : Type 0 where
  pub above : IsAboveLeast size
  pub not_past : size ≤ℤ pos greatest_window

-- what was granted, without what was sent (section 6.9.1)
abbrev pub balance : ℕ → ℕ → ℤ
balance granted sent = pos granted -ℤ pos sent

-- A sending window: the first size that the settings give it now, and the balance since (section 6.9.2).
abbrev pub sending_window : ℕ → ℕ → ℕ → ℤ
sending_window first granted sent = pos first +ℤ balance granted sent

-- what a new first size adds to each stream's sending window, and takes where it is below zero (section 6.9.2)
abbrev pub size_difference : ℕ → ℕ → ℤ
size_difference old new = pos new -ℤ pos old
