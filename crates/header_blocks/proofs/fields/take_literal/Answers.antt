use Rattle.std.proofs.lemmas.Result.{err_from_is_err_and}
use Rattle.std.proofs.Common.{◌+◌, ◌-◌, ◌∙◌, length, take, drop}
use Rattle.header_blocks.specs.Faults.{IsNameFault, IsStringFault, IsLiteralFault}
use Rattle.header_blocks.proofs.Faulted.{unless_then, literal_int, literal_name, literal_value}
use Rattle.header_blocks.proofs.Refused.{if_err, unless, unless_weaker, no_index, no_literal_name, no_literal_value}
use Rattle.header_blocks.proofs.Taken.{taken_literal}
use Rattle.header_blocks.proofs.fields.take_literal.Goals as goal

pub returns-clause-taken : goal.returns-clause-taken
returns-clause-taken c =
    taken_literal c.args.table.now c.args.prefix c.args.octets.now c.in_ok-index.index c.in_ok-index.start c.in_ok-name.name.items c.in_ok-name.name_length c.in_ok-value.value.items c.in_ok-value.value_length c.in_ok-field.field
    c.in_ok-index.ensures.taken c.in_ok-name.ensures.taken c.in_ok-value.ensures.taken c.in_ok-field.ensures.name (c.in_ok-field.ensures.value ∙ c.deref.ensures.value)

pub returns-in_err-index-clause-none : goal.returns-in_err-index-clause-none
returns-in_err-index-clause-none c = if_err c.from_residual.result _ (no_index c.args.table.now c.args.prefix c.args.octets.now c.in_err-index.ensures.none)

pub returns-in_err-name-clause-none : goal.returns-in_err-name-clause-none
returns-in_err-name-clause-none c =
    let p = err_from_is_err_and c.from_residual-in_err-name.result c.from_residual-in_err-name.ensures.1 in
    rw (p.1, p.2) (unless_weaker c.in_err-name.field-0.0 _ _ (no_literal_name c.args.table.now c.args.prefix c.args.octets.now c.in_ok-index.index c.in_ok-index.start c.in_ok-index.ensures.taken) c.in_err-name.ensures.none)

pub returns-in_err-value-clause-none : goal.returns-in_err-value-clause-none
returns-in_err-value-clause-none c =
    let p = err_from_is_err_and c.from_residual-in_err-value.result c.from_residual-in_err-value.ensures.1 in
    rw (p.1, p.2) (unless_weaker c.in_err-value.field-0.0 _ _
    (no_literal_value c.args.table.now c.args.prefix c.args.octets.now c.in_ok-index.index c.in_ok-index.start c.in_ok-name.name.items c.in_ok-name.name_length c.in_ok-index.ensures.taken c.in_ok-name.ensures.taken)
    c.in_err-value.ensures.none)

pub returns-in_err-index-clause-fault : goal.returns-in_err-index-clause-fault
returns-in_err-index-clause-fault c =
    let p = err_from_is_err_and c.from_residual.result c.from_residual.ensures.1 in
    rw (p.1, p.2) (unless c.in_err-index.field-0.0 _ (literal_int c.args.table.now c.args.prefix c.args.octets.now c.in_err-index.field-0.0 c.in_err-index.ensures.fault))

pub returns-in_err-name-clause-fault : goal.returns-in_err-name-clause-fault
returns-in_err-name-clause-fault c =
    let p = err_from_is_err_and c.from_residual-in_err-name.result c.from_residual-in_err-name.ensures.1 in
    rw (p.1, p.2) (unless_then c.in_err-name.field-0.0 (λ f. IsNameFault c.args.table.now c.in_ok-index.index (take (length c.args.octets.now - c.in_ok-index.start) (drop c.in_ok-index.start c.args.octets.now)) f)
    (λ f. IsLiteralFault c.args.table.now c.args.prefix c.args.octets.now f)
    (λ f s. literal_name c.args.table.now c.args.prefix c.args.octets.now c.in_ok-index.index c.in_ok-index.start f c.in_ok-index.ensures.taken s) c.in_err-name.ensures.fault)

pub returns-in_err-value-clause-fault : goal.returns-in_err-value-clause-fault
returns-in_err-value-clause-fault c =
    let p = err_from_is_err_and c.from_residual-in_err-value.result c.from_residual-in_err-value.ensures.1 in
    rw (p.1, p.2) (unless_then c.in_err-value.field-0.0
    (λ f. IsStringFault (take (length c.args.octets.now - (c.in_ok-index.start + c.in_ok-name.name_length)) (drop (c.in_ok-index.start + c.in_ok-name.name_length) c.args.octets.now)) f)
    (λ f. IsLiteralFault c.args.table.now c.args.prefix c.args.octets.now f)
    (λ f s. literal_value c.args.table.now c.args.prefix c.args.octets.now c.in_ok-index.index c.in_ok-index.start c.in_ok-name.name.items c.in_ok-name.name_length f c.in_ok-index.ensures.taken c.in_ok-name.ensures.taken s)
    c.in_err-value.ensures.fault)
