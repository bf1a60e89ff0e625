use Rattle.std.proofs.Common.{[]}
use Rattle.std.proofs.lemmas.Result.{err_from_is_err_and}
use Rattle.header_blocks.proofs.Faulted.{maximum_int, maximum_passes}
use Rattle.header_blocks.proofs.Refused.{if_err}
use Rattle.header_blocks.proofs.NoBlocks.{no_maximum_int, maximum_over}
use Rattle.header_blocks.proofs.maxima.take_maximum.Goals as goal

pub returns-in_err-maximum-clause-none : goal.returns-in_err-maximum-clause-none
returns-in_err-maximum-clause-none c = if_err c.from_residual.result _ (no_maximum_int c.args.octets.now c.in_err-maximum.ensures.none)

pub returns-then-maximum-gt-LARGEST_TABLE_SIZE-clause-none : goal.returns-then-maximum-gt-LARGEST_TABLE_SIZE-clause-none
returns-then-maximum-gt-LARGEST_TABLE_SIZE-clause-none c = maximum_over c.args.octets.now c.in_ok-maximum.maximum c.in_ok-maximum.used c.in_ok-maximum.ensures.taken c.if-maximum-gt-LARGEST_TABLE_SIZE.true

pub returns-in_err-maximum-clause-fault : goal.returns-in_err-maximum-clause-fault
returns-in_err-maximum-clause-fault c =
    let p = err_from_is_err_and c.from_residual.result c.from_residual.ensures.1 in
    rw (p.1, p.2) (maximum_int [] c.args.octets.now c.in_err-maximum.field-0.0 c.in_err-maximum.ensures.fault)

pub returns-then-maximum-gt-LARGEST_TABLE_SIZE-clause-fault : goal.returns-then-maximum-gt-LARGEST_TABLE_SIZE-clause-fault
returns-then-maximum-gt-LARGEST_TABLE_SIZE-clause-fault c = maximum_passes c.args.octets.now c.in_ok-maximum.maximum c.in_ok-maximum.used c.in_ok-maximum.ensures.taken c.if-maximum-gt-LARGEST_TABLE_SIZE.true
