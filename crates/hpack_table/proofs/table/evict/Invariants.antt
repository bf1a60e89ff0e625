use Rattle.std.proofs.Common.{◌≡◌, length}
use Rattle.model.specs.Tables.{keep, total_size}
use Rattle.hpack_table.proofs.table.evict.Given as goal

abbrev pub invariant-loop-size : goal.invariant-loop-size
invariant-loop-size l = record {
  same : keep l.maximum l.fields ≡ keep l.maximum l.fn.fields;
  total : l.size ≡ total_size l.fields;
}

abbrev pub decreases-loop-size : goal.decreases-loop-size
decreases-loop-size l = length l.fields
