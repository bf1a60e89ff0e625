-- What holds wherever a program rests, and so before each thing that comes in.
use Rattle.std.specs.Prelude.{◌≡◌, List, None}
use Rattle.model.specs.Tapes.{Entry, sent}
use Rattle.model.specs.Decoding.{begun}
use Rattle.model.specs.Known.{Known}
use Rattle.model.specs.ErrorClause.{ErrorsHold}

-- The clause on errors, and that each header block to the client is whole.
pub record KeepErrors (known : Known) (t : List Entry) : Type 0 where
  pub errors : ErrorsHold known t
  pub none_begun : begun (sent t) ≡ None
