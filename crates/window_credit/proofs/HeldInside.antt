-- No octets lie in what waits of streams' DATA.
use Rattle.std.proofs.Common.{◌≡◌, List, [], ◌∷◌, refl, arith}
use Rattle.std.specs.Prelude.{sum_by}
use Rattle.std.proofs.lemmas.List.Sums.{sum_by-cons}
use Rattle.window_credit.specs.HeldInside.{in_side_seen}
use Rattle.window_credit.specs.Sides.{Side}

pub sides_are_numbers : (sides : List Side) → sum_by in_side_seen sides ≡ 0
sides_are_numbers [] = refl
sides_are_numbers (side ∷ sides) = omega (arith, sum_by-cons in_side_seen side sides, sides_are_numbers sides)
