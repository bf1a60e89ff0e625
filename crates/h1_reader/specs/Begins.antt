-- What a reader does behind a final head.
use Rattle.std.specs.Prelude.{◌≡◌, zero, suc, List, [], ◌∷◌, ◌++◌}
use Rattle.h1_reader.specs.Parts.{Part}
use Rattle.h1_reader.specs.Parts.Part.{Done}
use Rattle.h1_reader.specs.Standing.{State}
use Rattle.response_texts.specs.declared.chunk_line.LinePlace.TheVariants.{Size}
use Rattle.response_texts.specs.declared.framing.Framing.{Framing}
use Rattle.response_texts.specs.declared.framing.Framing.TheVariants as ways
use Rattle.h1_reader.specs.declared.reader.Place.{Place}
use Rattle.h1_reader.specs.declared.reader.Place.TheVariants as place

-- the place behind the head
abbrev pub place_behind : Framing → Place
place_behind (ways.Sized zero) = place.Past
place_behind (ways.Sized (suc count)) = place.Sized (suc count)
place_behind ways.UntilEnd = place.UntilEnd
place_behind ways.Chunks = place.Line (Size 0 0)
place_behind _ = place.Past

-- what is told behind the head
abbrev pub told_behind : Framing → List Part
told_behind (ways.Sized (suc count)) = []
told_behind ways.UntilEnd = []
told_behind ways.Chunks = []
told_behind _ = Done ∷ []

-- The reader goes to its place behind the head.
pub record Begins (framing : Framing) (old new : State) (before after : List Part) : Type 0 where
  pub is : new ≡ record old { place = place_behind framing }
  pub told : after ≡ before ++ told_behind framing
