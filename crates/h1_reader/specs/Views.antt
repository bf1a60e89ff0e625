-- The code's values as plain ones.
use Rattle.std.specs.Prelude.{List, map}
use Rattle.h1_reader.specs.Parts.{Part}
use Rattle.h1_reader.specs.Parts as parts
use Rattle.h1_reader.specs.declared.piece.Piece.{Piece}
use Rattle.h1_reader.specs.declared.piece.Piece.TheVariants as piece

abbrev pub part_of : Piece → Part
part_of (piece.Interim head) = parts.Part.Interim head
part_of (piece.Head head) = parts.Part.Final head
part_of (piece.Body octets) = parts.Part.Body octets.items
part_of (piece.Trailers trailers) = parts.Part.Trailing trailers
part_of piece.Done = parts.Part.Done

abbrev pub parts_of : List Piece → List Part
parts_of pieces = map part_of pieces
