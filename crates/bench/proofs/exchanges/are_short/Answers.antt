use Rattle.std.proofs.Common.{arith, subst}
use Rattle.std.specs.List.{All}
use Rattle.std.proofs.lemmas.List.{take_all}
use Rattle.std.proofs.lemmas.List.Elements.{All-more}
use Rattle.header_blocks.specs.Chosen.{HasShortStrings}
use Rattle.bench.proofs.exchanges.are_short.Goals as goal

pub loop-field-preserved : goal.loop-field-preserved
loop-field-preserved c =
    All-more HasShortStrings c.args.fields.now c.loop-field.field-index c.field-item.result c.loop-field-test.true c.loop-field.invariant (subst HasShortStrings c.field-item.is c.if-not-is_short.ensures)

pub returns : goal.returns
returns c = subst (All HasShortStrings) (take_all c.loop-field.field-index c.args.fields.now (omega arith)) c.loop-field.invariant
