-- What was told, put together.
use Rattle.std.specs.Prelude.{◌≡◌, ℕ, Bool, List, [], ◌∷◌, ◌++◌, Option, Some, None}
use Rattle.model.specs.Messages.{Field}
use Rattle.model.specs.ResponseHeads.{Head}
use Rattle.model.specs.Responses.{H1Response}
use Rattle.h1_reader.specs.Parts.{Part}
use Rattle.h1_reader.specs.Parts.Part.{Interim, Final, Body, Trailing}

-- the interim heads
abbrev pub interims_of : List Part → List Head
interims_of [] = []
interims_of (Interim head ∷ parts) = head ∷ interims_of parts
interims_of (_ ∷ parts) = interims_of parts

-- the final head, if it was told
abbrev pub head_of : List Part → Option Head
head_of [] = None
head_of (Final head ∷ parts) = Some head
head_of (_ ∷ parts) = head_of parts

-- the octets of the body
abbrev pub body_of : List Part → List ℕ
body_of [] = []
body_of (Body octets ∷ parts) = octets ++ body_of parts
body_of (_ ∷ parts) = body_of parts

-- the trailers
abbrev pub trailers_of : List Part → List Field
trailers_of [] = []
trailers_of (Trailing fields ∷ parts) = fields
trailers_of (_ ∷ parts) = trailers_of parts

-- What was told is the whole response of the text, whose server ended the connection or didn't.
pub record IsWholeOf (text : List ℕ) (ended to_head : Bool) (parts : List Part) : Type 0 where
  pub head : Head
  pub has_head : head_of parts ≡ Some head
  pub is_whole : H1Response text ended to_head (record { interims = interims_of parts; head = head; body = body_of parts; trailers = trailers_of parts })
