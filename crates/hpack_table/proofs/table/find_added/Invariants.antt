use Rattle.std.proofs.Common.{◌+◌, ◌-◌, length}
use Rattle.hpack_table.specs.Searching.{Seeks, table_of}
use Rattle.hpack_table.proofs.table.find_added.Given as goal

abbrev pub invariant-loop-field : goal.invariant-loop-field
invariant-loop-field l = Seeks (table_of l.fields) l.name l.value (62 + l.place) l.found

abbrev pub decreases-loop-field : goal.decreases-loop-field
decreases-loop-field l = length l.fields - l.place
