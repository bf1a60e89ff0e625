use Rattle.std.proofs.Common.{arith, sym}
use Rattle.hpack_table.proofs.Kept.{total_none}
use Rattle.hpack_table.proofs.table.Table.new.Goals as goal

pub invariant_of-result : goal.invariant_of-result
invariant_of-result c = (rw c.new.ensures (sym total_none), omega arith, omega (arith, c.ranges.maximum), λ x e. cc)
