-- Fields that break no rule of their own, and that no rule of a whole head speaks of.
use Rattle.std.specs.Prelude.{◌≡◌, ℕ, Bool, true, false, not, ◌&&◌, List, [], ◌∷◌, ◌++◌, codes, bytes_eq}
use Rattle.std.specs.List.{list_all, list_any}
use Rattle.model.specs.Octets.{some_of, is_value}
use Rattle.model.specs.Messages.{Field}
use Rattle.model.specs.Http2.{is_name_octet, connection_names}

-- the names of regular fields that rules speak of
abbrev pub judged_names : List (List ℕ)
judged_names = codes "te" ∷ codes "host" ∷ codes "content-length" ∷ connection_names

-- a regular field with a right name, which is none of those, and a right value
abbrev pub is_ordinary : Field → Bool
is_ordinary field =
    some_of is_name_octet field.name && is_value field.value && not (list_any (bytes_eq field.name) judged_names)

-- Behind the front a head has ordinary fields alone.
pub record EndsOrdinary (front head : List Field) : Type 0 where
  pub rest : List Field
  pub is : head ≡ front ++ rest
  pub ordinary : list_all is_ordinary rest ≡ true

-- The front ends with a field that isn't ordinary, unless it is empty.
abbrev pub IsShortest : List Field → Type 0
IsShortest front = (more : List Field) (last : Field) → front ≡ more ++ last ∷ [] → is_ordinary last ≡ false
