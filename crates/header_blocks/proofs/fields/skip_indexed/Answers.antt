use Rattle.std.proofs.Common.{arith}
use Rattle.std.proofs.lemmas.Result.{err_from_is_err_and}
use Rattle.header_blocks.proofs.Taken.{skipped}
use Rattle.header_blocks.proofs.Faulted.{indexed_int, indexed_entry}
use Rattle.header_blocks.proofs.Refused.{if_err, unless, no_indexed_int, no_indexed_entry}
use Rattle.header_blocks.proofs.fields.skip_indexed.Goals as goal

pub returns-clause-skipped : goal.returns-clause-skipped
returns-clause-skipped c =
    let small = c.type_inv.octets 0 in
    skipped c.args.table.now c.args.octets.now c.in_ok-index.index c.in_ok-index.used _ c.in_ok-index.ensures.taken c.requires.marked (omega (arith, small)) c.in-Some.ensures.entry

pub returns-in_err-index-clause-none : goal.returns-in_err-index-clause-none
returns-in_err-index-clause-none c =
    let small = c.type_inv.octets 0 in
    if_err c.from_residual.result _ (no_indexed_int c.args.table.now c.args.octets.now c.requires.marked (omega (arith, small)) c.in_err-index.ensures.none)

pub returns-in_default-clause-none : goal.returns-in_default-clause-none
returns-in_default-clause-none c =
    let small = c.type_inv.octets 0 in
    no_indexed_entry c.args.table.now c.args.octets.now c.in_ok-index.index c.in_ok-index.used c.requires.marked (omega (arith, small)) c.in_ok-index.ensures.taken c.in_default.ensures.entry

pub returns-in_err-index-clause-fault : goal.returns-in_err-index-clause-fault
returns-in_err-index-clause-fault c =
    let small = c.type_inv.octets 0 in
    let p = err_from_is_err_and c.from_residual.result c.from_residual.ensures.1 in
    rw (p.1, p.2) (unless c.in_err-index.field-0.0 _ (indexed_int c.args.table.now c.args.octets.now c.in_err-index.field-0.0 c.requires.marked (omega (arith, small)) c.in_err-index.ensures.fault))

pub returns-in_default-clause-fault : goal.returns-in_default-clause-fault
returns-in_default-clause-fault c =
    let small = c.type_inv.octets 0 in
    indexed_entry c.args.table.now c.args.octets.now c.in_ok-index.index c.in_ok-index.used c.requires.marked (omega (arith, small)) c.in_ok-index.ensures.taken c.in_default.ensures.entry
