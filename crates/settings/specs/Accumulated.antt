-- What was found so far, and what comes behind it.
use Rattle.std.specs.Prelude.{ℕ, min, List, Option, Some, None}
use Rattle.std.specs.List.{fold, reduce}

-- the smallest of these and of what was found before, if anything was
abbrev pub smallest_with : Option ℕ → List ℕ → Option ℕ
smallest_with None values = reduce min values
smallest_with (Some before) values = Some (fold min before values)
