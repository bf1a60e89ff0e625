-- What an encoder keeps.
use Rattle.std.specs.Prelude.{◌≡◌, ℕ, Bool, false, [], Option}
use Rattle.std.specs.Option.{ForSome}
use Rattle.model.specs.Tables.{Table}
use Rattle.header_blocks.specs.Bounds.{IsBounded}
use Rattle.header_blocks.specs.Due.{AreInRange}
use Rattle.header_blocks.specs.declared.limits.Limits.{Limits}

-- The limits are counted, the table is within its bounds and empty where nothing is inserted, and unless memory was refused
-- the maximum is the table's.
pub record IsSound (table : Table) (maximum : ℕ) (limits : Option Limits) (indexing refused : Bool) : Type 0 where
  pub are_counted : ForSome limits AreInRange
  pub bounded : IsBounded table
  pub plain : indexing ≡ false → table.fields ≡ []
  pub is_maximum : refused ≡ false → maximum ≡ table.maximum
