use Rattle.std.proofs.Common.{arith}
use Rattle.hpack_table.proofs.ByHash.{index_kept}
use Rattle.hpack_table.proofs.table.Table.set_max.Goals as goal

pub invariant_of-self : goal.invariant_of-self
invariant_of-self c = (
  c.evict-self-inside.ensures.size,
  c.evict-self-inside.ensures.fits,
  omega (arith, c.ranges.maximum),
  index_kept c.self.inside.index c.shorten.new.index c.self.inside.fields c.evict-self-inside.new.fields c.args.maximum c.len.result c.self.invariant.3 c.shorten.ensures c.evict-self-inside.ensures.kept c.len.ensures,
)
