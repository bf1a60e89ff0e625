use Rattle.std.proofs.Common.{arith, refl}
use Rattle.std.proofs.lemmas.Result.{err_from_is_err_and}
use Rattle.header_blocks.proofs.Bounded.{bounded_resized}
use Rattle.header_blocks.proofs.Faulted.{maxima_stop}
use Rattle.header_blocks.proofs.Refused.{unless_weaker}
use Rattle.header_blocks.proofs.NoBlocks.{no_maxima_on}
use Rattle.header_blocks.proofs.Chained.{more_maxima}
use Rattle.header_blocks.proofs.maxima.take_maxima.Goals as goal

pub loop-start-preserved : goal.loop-start-preserved
loop-start-preserved c = (
  more_maxima c.args.table.now c.loop-start.table c.set_max.new.self c.args.block.now c.loop-start.start c.in_ok-maximum.used c.in_ok-maximum.maximum c.loop-start.invariant.0 c.in_ok-maximum.ensures.taken c.set_max.ensures,
  λ b. bounded_resized c.in_ok-maximum.maximum c.loop-start.table c.set_max.new.self c.in_ok-maximum.ensures.taken.is_maximum.in_range c.set_max.ensures,
)

pub returns-in_err-maximum-clause-none : goal.returns-in_err-maximum-clause-none
returns-in_err-maximum-clause-none c =
    let p = err_from_is_err_and c.from_residual.result c.from_residual.ensures.1 in
    let first = c.if-is_maximum.ensures.0 refl in
    rw (p.1, p.2) (unless_weaker c.in_err-maximum.field-0.0 _ _ (no_maxima_on c.args.table.now c.loop-start.table c.args.block.now c.loop-start.start c.loop-start.invariant.0 (omega arith) first.0 first.1) c.in_err-maximum.ensures.none)

pub returns-in_err-maximum-clause-fault : goal.returns-in_err-maximum-clause-fault
returns-in_err-maximum-clause-fault c =
    let p = err_from_is_err_and c.from_residual.result c.from_residual.ensures.1 in
    let first = c.if-is_maximum.ensures.0 refl in
    rw (p.1, p.2) (maxima_stop c.args.table.now c.loop-start.table c.args.block.now c.loop-start.start c.in_err-maximum.field-0.0 c.loop-start.invariant.0 (omega arith) first.0 first.1 c.in_err-maximum.ensures.fault)
