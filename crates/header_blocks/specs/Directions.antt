-- What a decoder is seen as.
use Rattle.std.specs.Prelude.{Option, Some, None}
use Rattle.model.specs.Tables.{Table}
use Rattle.header_blocks.specs.declared.fault.DecodeFault.{DecodeFault}

-- The table of a direction, as the last block that was decoded leaves it, and the fault that is answered from then on, if any.
pub record Direction : Type 0 where
  pub table : Table
  pub fault : Option DecodeFault

-- Behind a fault the table is the one before the block that has it: the model's stays as it was.
abbrev pub table_behind : Option DecodeFault → Table → Table → Table
table_behind None before table = table
table_behind (Some fault) before table = before
