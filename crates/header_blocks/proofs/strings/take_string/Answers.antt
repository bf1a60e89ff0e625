use Rattle.std.proofs.Common.{length-take, length-drop, arith}
use Rattle.std.proofs.lemmas.Result.{err_from_is_err_and}
use Rattle.header_blocks.proofs.Faulted.{string_int, string_cut, string_bad}
use Rattle.header_blocks.proofs.Refused.{if_err, unless, no_number, cut_string, bad_string, unless_weaker}
use Rattle.header_blocks.proofs.Taken.{taken_raw, taken_huffman}
use Rattle.header_blocks.proofs.strings.take_string.Goals as goal
use Rattle.header_blocks.proofs.strings.take_string.Goals.{then-octets-ge128+in_ok-string, else-octets-ge128+in_ok-string-2}

pub returns-clause-taken : goal.returns-clause-taken
returns-clause-taken c = elim c.if-octets-ge128.branch [
  | then-octets-ge128+in_ok-string w ↦ rw w.string-is (let small = c.type_inv.octets 0 in
      taken_huffman c.args.octets.now c.in_ok-number.number c.in_ok-number.start w.in_ok-string.string.items c.in_ok-number.ensures.taken (omega (arith, small)) (omega arith) (omega arith) w.in_ok-string.ensures.decoded)
  | else-octets-ge128+in_ok-string-2 w ↦ rw w.string-is
      (taken_raw c.args.octets.now c.in_ok-number.number c.in_ok-number.start w.in_ok-string-2.string.items c.in_ok-number.ensures.taken (omega arith) (omega arith) w.in_ok-string-2.ensures.items)
]

pub returns-in_err-number-clause-none : goal.returns-in_err-number-clause-none
returns-in_err-number-clause-none c = if_err c.from_residual.result _ (no_number c.args.octets.now c.in_err-number.ensures.none)

pub returns-then-rest-number-clause-none : goal.returns-then-rest-number-clause-none
returns-then-rest-number-clause-none c = cut_string c.args.octets.now c.in_ok-number.number c.in_ok-number.start c.in_ok-number.ensures.taken (let short = simp (length-take, length-drop) at c.if-rest-number.true in omega (arith, short))

pub returns-in_err-string-clause-none : goal.returns-in_err-string-clause-none
returns-in_err-string-clause-none c =
    let p = err_from_is_err_and c.from_residual-in_err-string.result c.from_residual-in_err-string.ensures.1 in
    rw (p.1, p.2) (unless_weaker c.in_err-string.field-0.0 _ _ (bad_string c.args.octets.now c.in_ok-number.number c.in_ok-number.start c.in_ok-number.ensures.taken (omega arith)) c.in_err-string.ensures.none)

pub returns-in_err-number-clause-fault : goal.returns-in_err-number-clause-fault
returns-in_err-number-clause-fault c =
    let p = err_from_is_err_and c.from_residual.result c.from_residual.ensures.1 in
    rw (p.1, p.2) (unless c.in_err-number.field-0.0 _ (string_int c.args.octets.now c.in_err-number.field-0.0 c.in_err-number.ensures.fault))

pub returns-then-rest-number-clause-fault : goal.returns-then-rest-number-clause-fault
returns-then-rest-number-clause-fault c = string_cut c.args.octets.now c.in_ok-number.number c.in_ok-number.start c.in_ok-number.ensures.taken (let short = simp (length-take, length-drop) at c.if-rest-number.true in omega (arith, short))

pub returns-in_err-string-clause-fault : goal.returns-in_err-string-clause-fault
returns-in_err-string-clause-fault c =
    let p = err_from_is_err_and c.from_residual-in_err-string.result c.from_residual-in_err-string.ensures.1 in
    rw (p.1, p.2) (string_bad c.in_err-string.field-0.0 c.args.octets.now c.in_ok-number.number c.in_ok-number.start c.in_ok-number.ensures.taken (omega arith) (omega arith) c.in_err-string.ensures.fault c.in_err-string.ensures.none)
