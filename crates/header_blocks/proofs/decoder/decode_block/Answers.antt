use Rattle.std.proofs.Common.{◌-◌, length, take, drop, arith, refl}
use Rattle.std.proofs.lemmas.Result.{err_from_is_err_and}
use Rattle.header_blocks.specs.Faults.{IsFieldFault, IsFaultOf}
use Rattle.header_blocks.proofs.Faulted.{unless_then, late_int, late, fields_stop}
use Rattle.header_blocks.proofs.Refused.{if_err, unless, unless_weaker}
use Rattle.header_blocks.proofs.NoBlocks.{decoding_field, decoding_skipped, is_none_at, late_on, no_fields_on}
use Rattle.header_blocks.proofs.decoder.decode_block.Goals as goal

pub loop-start-preserved : goal.loop-start-preserved
loop-start-preserved c = (
  decoding_field c.args.table.now c.loop-start.table c.settle.new.table c.args.block.now c.loop-start.start c.args.cap c.in_ok-taken.taken c.loop-start.gathering.fields.items c.settle.new.gathering.fields.items
      c.loop-start.gathering.room c.settle.new.gathering.room c.loop-start.invariant.0 c.in_ok-taken.ensures.taken c.in_ok-settle.ensures.settled,
  λ b. c.settle.ensures.bounded (c.loop-start.invariant.1 b),
)

pub loop-start-preserved-then-block-start-ge128 : goal.loop-start-preserved-then-block-start-ge128
loop-start-preserved-then-block-start-ge128 c = (
  decoding_skipped c.args.table.now c.loop-start.table c.args.block.now c.loop-start.start c.args.cap c.in_ok-start-2.field-0 c.loop-start.gathering.fields.items c.loop-start.gathering.room c.loop-start.invariant.0 c.in_ok-start-2.ensures.skipped
      (is_none_at c.loop-start.gathering.room c.if-is_none.ensures),
  c.loop-start.invariant.1,
)

pub returns-in_err-start-2-clause-none : goal.returns-in_err-start-2-clause-none
returns-in_err-start-2-clause-none c =
    let p = err_from_is_err_and c.from_residual-in_err-start-2.result c.from_residual-in_err-start-2.ensures.1 in
    rw (p.1, p.2) (unless_weaker c.in_err-start-2.field-0.0 _ _
    (λ none. no_fields_on c.args.table.now c.loop-start.table c.args.block.now c.loop-start.start c.args.cap c.loop-start.gathering.fields.items c.loop-start.gathering.room c.loop-start.invariant.0.gathers (omega arith) none c.loop-start.invariant.0.fresh)
    c.in_err-start-2.ensures.none)

pub returns-in_err-start-2-clause-fault : goal.returns-in_err-start-2-clause-fault
returns-in_err-start-2-clause-fault c =
    let p = err_from_is_err_and c.from_residual-in_err-start-2.result c.from_residual-in_err-start-2.ensures.1 in
    rw (p.1, p.2) (unless_then c.in_err-start-2.field-0.0 (λ f. IsFieldFault c.loop-start.table (take (length c.args.block.now - c.loop-start.start) (drop c.loop-start.start c.args.block.now)) f)
    (λ f. IsFaultOf c.args.table.now c.args.block.now f)
    (λ f s. fields_stop c.args.table.now c.loop-start.table c.args.block.now c.loop-start.start c.args.cap c.loop-start.gathering.fields.items c.loop-start.gathering.room c.loop-start.invariant.0.gathers (omega arith) f s) c.in_err-start-2.ensures.fault)

pub returns-in_err-take_int-clause-none : goal.returns-in_err-take_int-clause-none
returns-in_err-take_int-clause-none c =
    let first = c.if-is_maximum.ensures.0 refl in
    if_err c.from_residual-in_err-take_int.result _
    (late_on c.args.table.now c.loop-start.table c.args.block.now c.loop-start.start c.args.cap c.loop-start.gathering.fields.items c.loop-start.gathering.room c.loop-start.invariant.0.gathers (omega arith) first.0 first.1 c.loop-start.invariant.0.fresh)

pub returns-then-is_maximum-clause-none : goal.returns-then-is_maximum-clause-none
returns-then-is_maximum-clause-none c =
    let first = c.if-is_maximum.ensures.0 refl in
    late_on c.args.table.now c.loop-start.table c.args.block.now c.loop-start.start c.args.cap c.loop-start.gathering.fields.items c.loop-start.gathering.room c.loop-start.invariant.0.gathers (omega arith) first.0 first.1 c.loop-start.invariant.0.fresh

pub returns-in_err-taken-clause-none : goal.returns-in_err-taken-clause-none
returns-in_err-taken-clause-none c =
    let p = err_from_is_err_and c.from_residual-in_err-taken.result c.from_residual-in_err-taken.ensures.1 in
    rw (p.1, p.2) (unless_weaker c.in_err-taken.field-0.0 _ _
    (λ none. no_fields_on c.args.table.now c.loop-start.table c.args.block.now c.loop-start.start c.args.cap c.loop-start.gathering.fields.items c.loop-start.gathering.room c.loop-start.invariant.0.gathers (omega arith) none c.loop-start.invariant.0.fresh)
    c.in_err-taken.ensures.none)

pub returns-in_err-take_int-clause-fault : goal.returns-in_err-take_int-clause-fault
returns-in_err-take_int-clause-fault c =
    let first = c.if-is_maximum.ensures.0 refl in
    let p = err_from_is_err_and c.from_residual-in_err-take_int.result c.from_residual-in_err-take_int.ensures.1 in
    rw (p.1, p.2) (unless c.in_err-take_int.field-0.0 _
    (late_int c.args.table.now c.loop-start.table c.args.block.now c.loop-start.start c.args.cap c.loop-start.gathering.fields.items c.loop-start.gathering.room c.loop-start.invariant.0.gathers (omega arith) c.in_err-take_int.field-0.0 first.0 first.1
    c.in_err-take_int.ensures.fault))

pub returns-then-is_maximum-clause-fault : goal.returns-then-is_maximum-clause-fault
returns-then-is_maximum-clause-fault c =
    let first = c.if-is_maximum.ensures.0 refl in
    late c.args.table.now c.loop-start.table c.args.block.now c.loop-start.start c.args.cap c.loop-start.gathering.fields.items c.loop-start.gathering.room c.loop-start.invariant.0.gathers (omega arith) c.in_ok-take_int.field-0.0 c.in_ok-take_int.field-0.1 first.0 first.1 c.in_ok-take_int.ensures.taken c.loop-start.invariant.0.unmarked

pub returns-in_err-taken-clause-fault : goal.returns-in_err-taken-clause-fault
returns-in_err-taken-clause-fault c =
    let p = err_from_is_err_and c.from_residual-in_err-taken.result c.from_residual-in_err-taken.ensures.1 in
    rw (p.1, p.2) (unless_then c.in_err-taken.field-0.0 (λ f. IsFieldFault c.loop-start.table (take (length c.args.block.now - c.loop-start.start) (drop c.loop-start.start c.args.block.now)) f)
    (λ f. IsFaultOf c.args.table.now c.args.block.now f)
    (λ f s. fields_stop c.args.table.now c.loop-start.table c.args.block.now c.loop-start.start c.args.cap c.loop-start.gathering.fields.items c.loop-start.gathering.room c.loop-start.invariant.0.gathers (omega arith) f s) c.in_err-taken.ensures.fault)
