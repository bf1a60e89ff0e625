-- What payloads say, worked by computation alone.
use Rattle.std.proofs.Common.{◌≡◌, [], ◌∷◌, refl}
use Rattle.frames.specs.Parts.{Parts, parts_of}

-- HEADERS with padding and a priority: 02 000000000f 82 0000 has the fragment 82
pub padded_fragment : parts_of (record { kind = 1; flags = 40; id = 1; payload = 2 ∷ 0 ∷ 0 ∷ 0 ∷ 0 ∷ 15 ∷ 130 ∷ 0 ∷ 0 ∷ [] }) ≡ Parts.Headers (130 ∷ [])
padded_fragment = refl

-- the reserved bit above an increment is ignored: ffff0001 is 2,147,418,113
pub reserved_increment : parts_of (record { kind = 8; flags = 0; id = 0; payload = 255 ∷ 255 ∷ 0 ∷ 1 ∷ [] }) ≡ Parts.WindowUpdate 2147418113
reserved_increment = refl
