-- How many octets wait behind marks.
use Rattle.std.specs.Prelude.{◌<◌, List, [], ◌∷◌}
use Rattle.theory_receive_windows.specs.Marks.{Mark}

-- Behind each mark wait some octets.
abbrev pub AreSome : List Mark → Type 0
AreSome [] = Unit {0}
AreSome (m ∷ ms) = (0 < m.count) × AreSome ms
