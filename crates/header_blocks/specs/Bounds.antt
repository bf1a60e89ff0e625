-- The bounds of a direction's table.
use Rattle.std.specs.Prelude.{◌≤◌}
use Rattle.model.specs.Tables.{Table, total_size}
use Rattle.model.specs.Limits.{first_maximum}

-- The maximum is in its range, and so is the sum of the fields' sizes.
pub record IsBounded (table : Table) : Type 0 where
  pub maximum : table.maximum ≤ first_maximum
  pub sizes : total_size table.fields ≤ first_maximum
