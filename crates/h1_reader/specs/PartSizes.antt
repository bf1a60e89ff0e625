-- How many octets the names and values of what was told have.
use Rattle.std.specs.Prelude.{ℕ, ◌≤◌, List, All}
use Rattle.model.specs.Limits.{longest_section}
use Rattle.response_texts.specs.HeadSizes.{field_octets}
use Rattle.h1_reader.specs.Parts.{Part}
use Rattle.h1_reader.specs.Parts.Part.{Interim, Final, Trailing}

-- the octets of the names and values of a head or of trailers, where the part is such
abbrev pub head_octets : Part → ℕ
head_octets (Interim head) = field_octets head.fields
head_octets (Final head) = field_octets head.fields
head_octets (Trailing fields) = field_octets fields
head_octets _ = 0

-- the names and values of each head, and of trailers, among the parts have at most 16,384 octets
abbrev pub HeadsAreShort : List Part → Type 0
HeadsAreShort parts = All (λ part. head_octets part ≤ longest_section) parts
