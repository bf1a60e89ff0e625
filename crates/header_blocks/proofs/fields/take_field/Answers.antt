use Rattle.std.proofs.Common.{arith, subst, inl, inr}
use Rattle.std.proofs.lemmas.Result.{err_from_is_err_and}
use Rattle.header_blocks.specs.Represented.{UnlessMemory, BeginsNoLiteral}
use Rattle.header_blocks.specs.Faults.{IsLiteralFault, IsFieldFault}
use Rattle.header_blocks.proofs.Faulted.{unless_then, field_inserted, field_other}
use Rattle.header_blocks.proofs.Refused.{unless_weaker, no_inserted, no_other}
use Rattle.header_blocks.proofs.fields.take_field.Goals as goal
use Rattle.header_blocks.proofs.fields.take_field.Goals.{then-inserts, else-inserts}

pub returns-in_err-field-clause-none : goal.returns-in_err-field-clause-none
returns-in_err-field-clause-none c =
    let p = err_from_is_err_and c.from_residual.result c.from_residual.ensures.1 in
    let none : UnlessMemory c.in_err-field.field-0.0 (BeginsNoLiteral c.args.table.now c.if-inserts.prefix c.args.octets.now) = c.in_err-field.ensures.none in
    rw (p.1, p.2) (elim c.if-inserts.branch [
      | then-inserts w ↦ unless_weaker c.in_err-field.field-0.0 _ _ (no_inserted c.args.table.now c.args.octets.now (omega arith) (omega arith))
          (subst (λ n. UnlessMemory c.in_err-field.field-0.0 (BeginsNoLiteral c.args.table.now n c.args.octets.now)) w.prefix-is none)
      | else-inserts w ↦ unless_weaker c.in_err-field.field-0.0 _ _ (no_other c.args.table.now c.args.octets.now (elim c.requires.no_maximum [ inl low ↦ low | inr high ↦ omega arith ]))
          (subst (λ n. UnlessMemory c.in_err-field.field-0.0 (BeginsNoLiteral c.args.table.now n c.args.octets.now)) w.prefix-is none)
    ])

pub returns-in_err-field-clause-fault : goal.returns-in_err-field-clause-fault
returns-in_err-field-clause-fault c =
    let p = err_from_is_err_and c.from_residual.result c.from_residual.ensures.1 in
    let stops : UnlessMemory c.in_err-field.field-0.0 (IsLiteralFault c.args.table.now c.if-inserts.prefix c.args.octets.now c.in_err-field.field-0.0) = c.in_err-field.ensures.fault in
    rw (p.1, p.2) (elim c.if-inserts.branch [
      | then-inserts w ↦ unless_then c.in_err-field.field-0.0 (λ f. IsLiteralFault c.args.table.now 6 c.args.octets.now f) (λ f. IsFieldFault c.args.table.now c.args.octets.now f)
          (λ f s. field_inserted c.args.table.now c.args.octets.now f (omega arith) (omega arith) s)
          (subst (λ n. UnlessMemory c.in_err-field.field-0.0 (IsLiteralFault c.args.table.now n c.args.octets.now c.in_err-field.field-0.0)) w.prefix-is stops)
      | else-inserts w ↦ unless_then c.in_err-field.field-0.0 (λ f. IsLiteralFault c.args.table.now 4 c.args.octets.now f) (λ f. IsFieldFault c.args.table.now c.args.octets.now f)
          (λ f s. field_other c.args.table.now c.args.octets.now f (elim c.requires.no_maximum [ inl low ↦ low | inr high ↦ omega arith ]) s)
          (subst (λ n. UnlessMemory c.in_err-field.field-0.0 (IsLiteralFault c.args.table.now n c.args.octets.now c.in_err-field.field-0.0)) w.prefix-is stops)
    ])
