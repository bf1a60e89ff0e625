use Rattle.std.proofs.Common.{inl}
use Rattle.header_blocks.specs.Faults.{IsStringFault, IsNameFault}
use Rattle.header_blocks.proofs.Faulted.{if_err_then}
use Rattle.header_blocks.proofs.Refused.{if_err_weaker, no_new_name}
use Rattle.header_blocks.proofs.fields.take_name.Goals as goal

pub returns-then-index-eq0-clause-none : goal.returns-then-index-eq0-clause-none
returns-then-index-eq0-clause-none c = if_err_weaker c.take_string.result _ _ (no_new_name c.args.table.now c.args.index c.args.octets.now c.if-index-eq0.true) c.take_string.ensures.none

pub returns-then-index-eq0-clause-fault : goal.returns-then-index-eq0-clause-fault
returns-then-index-eq0-clause-fault c =
    if_err_then c.take_string.result (λ f. IsStringFault c.args.octets.now f) (λ f. IsNameFault c.args.table.now c.args.index c.args.octets.now f) (λ f p. inl (c.if-index-eq0.true, p)) c.take_string.ensures.fault
