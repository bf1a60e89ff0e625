use Rattle.std.proofs.Common.{rules}
use Rattle.model.specs.Tables.{static_table}
use Rattle.hpack_table.proofs.StaticTable.{same_entry}
use Rattle.hpack_table.proofs.static_table.static_entry.Goals as goal

pub returns : goal.returns
unfolding static_table
returns c = search (rules, same_entry)
