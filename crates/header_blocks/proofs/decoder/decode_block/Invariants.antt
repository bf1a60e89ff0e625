use Rattle.std.proofs.Common.{◌-◌, length}
use Rattle.header_blocks.specs.Bounds.{IsBounded}
use Rattle.header_blocks.proofs.NoBlocks.{Decoding}
use Rattle.header_blocks.proofs.decoder.decode_block.Given as goal

abbrev pub invariant-loop-start : goal.invariant-loop-start
invariant-loop-start l = Decoding l.fn.table l.block l.start l.cap l.gathering.fields.items l.gathering.room l.table × (IsBounded l.fn.table → IsBounded l.table)

abbrev pub decreases-loop-start : goal.decreases-loop-start
decreases-loop-start l = length l.block - l.start
