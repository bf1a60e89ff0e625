use Rattle.std.proofs.Common.{take}
use Rattle.std.specs.List.{All}
use Rattle.header_blocks.specs.Chosen.{HasShortStrings}
use Rattle.bench.proofs.exchanges.are_short.Given as goal

abbrev pub invariant-loop-field : goal.invariant-loop-field
invariant-loop-field l = All HasShortStrings (take l.field-index l.fields)
