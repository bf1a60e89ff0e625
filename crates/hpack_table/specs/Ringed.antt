-- The fields of a ring.
use Rattle.std.specs.Prelude.{List, [], Option, Some, None}
use Rattle.circular_buffer.specs.Buffer.{Buffer}
use Rattle.model.specs.Messages.{Field}

-- the fields in a buffer; there is none before the first insertion
abbrev pub fields_in : Option (Buffer Field) → List Field
fields_in None = []
fields_in (Some buffer) = buffer.items
