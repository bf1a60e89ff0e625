-- Which fields are inserted.
use Rattle.std.specs.Prelude.{◌≡◌, ◌≤◌, true}
use Rattle.model.specs.Messages.{Field}
use Rattle.model.specs.Tables.{field_size}
use Rattle.header_blocks.specs.Encoding.{is_indexing}
use Rattle.header_blocks.specs.declared.policy.Rules.{Rules}

-- Fields are inserted, and this one fits the table.
pub record Inserts (rules : Rules) (field : Field) : Type 0 where
  pub is_indexing : is_indexing rules.policy ≡ true
  pub fits : field_size field ≤ rules.maximum
