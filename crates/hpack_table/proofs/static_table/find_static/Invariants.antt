use Rattle.std.proofs.Common.{◌-◌}
use Rattle.hpack_table.proofs.Walked.{Walks}
use Rattle.hpack_table.proofs.static_table.find_static.Given as goal

abbrev pub invariant-loop-entry_value : goal.invariant-loop-entry_value
invariant-loop-entry_value l = Walks l.name l.value l.start l.place

abbrev pub decreases-loop-entry_value : goal.decreases-loop-entry_value
decreases-loop-entry_value l = 61 - l.place
