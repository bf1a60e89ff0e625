-- A block that is written.
use Rattle.std.specs.Prelude.{◌≡◌, ℕ, ◌≤◌, Bool, List, ◌++◌, unwrap_or, option_to_list}
use Rattle.std.specs.Option.{ForSome}
use Rattle.model.specs.Messages.{Field}
use Rattle.model.specs.Tables.{Table}
use Rattle.model.specs.Limits.{first_maximum}
use Rattle.model.specs.Blocks.{IsBlock}
use Rattle.header_blocks.specs.Chosen.{AreChosen}
use Rattle.header_blocks.specs.declared.limits.SizeUpdates.{SizeUpdates}

-- Maxima with which a block can begin, and where they lead.
pub record CanBegin (table : Table) (due : SizeUpdates) (reached : ℕ) : Type 0 where
  pub least : ForSome due.least (λ m. m ≤ first_maximum)
  pub last : ForSome due.last (λ m. m ≤ first_maximum)
  pub leads : unwrap_or due.last (unwrap_or due.least table.maximum) ≡ reached

-- A block of these maxima and fields is added at the end.
pub record AddsBlock (indexing : Bool) (table : Table) (due : SizeUpdates) (fields : List Field) (next : Table) (old new : List ℕ) : Type 0 where
  pub written : List ℕ
  pub added : new ≡ old ++ written
  pub is_block : IsBlock table written (option_to_list due.least ++ option_to_list due.last) fields next
  pub chosen : AreChosen indexing is_block.between is_block.rest fields next
