-- How many octets the names and values of a head have, and of trailers, and what is so of those that are passed back.
use Rattle.std.specs.Prelude.{◌≡◌, ◌≢◌, ℕ, ◌+◌, ◌<◌, ◌≤◌, List, [], ◌∷◌, length}
use Rattle.model.specs.Messages.{Field}
use Rattle.model.specs.Http2.{pseudo_fields}
use Rattle.model.specs.ResponseHeads.{Head}
use Rattle.model.specs.Limits.{longest_section}

-- the octets of all names and values
abbrev pub field_octets : List Field → ℕ
field_octets [] = 0
field_octets (field ∷ fields) = length field.name + length field.value + field_octets fields

-- A head can be passed back: its status has three digits at most, none of its fields is a pseudo-field (RFC 9113, section 8.3), and
-- their names and values have at most 16,384 octets (this project's profile).
pub record CanBePassedBack (head : Head) : Type 0 where
  pub digits : head.status < 1000
  pub plain : pseudo_fields head.fields ≡ []
  pub short : field_octets head.fields ≤ longest_section

-- Trailers can be passed back: there are some, none is a pseudo-field (RFC 9113, section 8.1), and their names and values have at most
-- 16,384 octets (this project's profile).
pub record CanTrail (fields : List Field) : Type 0 where
  pub some : fields ≢ []
  pub plain : pseudo_fields fields ≡ []
  pub short : field_octets fields ≤ longest_section
