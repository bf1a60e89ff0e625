-- A response's head as the fields of a header block.
use Rattle.std.specs.Prelude.{ℕ, ◌+◌, ◌/◌, ◌%◌, List, [], ◌∷◌, codes}
use Rattle.model.specs.Messages.{Field}
use Rattle.model.specs.ResponseHeads.{Head}

-- a number below 1,000 in three digits
abbrev pub three_digits : ℕ → List ℕ
three_digits number = (48 + number / 100 % 10) ∷ (48 + number / 10 % 10) ∷ (48 + number % 10) ∷ []

abbrev pub status_field : ℕ → Field
status_field status = record { name = codes ":status"; value = three_digits status }

-- the status, and then the fields (RFC 9113, section 8.3.2)
abbrev pub section_of : Head → List Field
section_of head = status_field head.status ∷ head.fields
