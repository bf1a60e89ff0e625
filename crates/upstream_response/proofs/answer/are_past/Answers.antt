use Rattle.std.proofs.Common.{◌+◌, arith}
use Rattle.upstream_response.proofs.Pieces.{count_next, count_front}
use Rattle.upstream_response.proofs.answer.are_past.Goals as goal

pub returns-then-count-left-clause-past : goal.returns-then-count-left-clause-past
returns-then-count-left-clause-past c =
    let next = count_next c.args.pieces.now c.loop-piece.piece-index c.piece-item.result c.loop-piece-test.true c.piece-item.is in
    let all = count_front c.args.pieces.now (c.loop-piece.piece-index + 1) in
    λ past. omega (arith, next, all, c.loop-piece.invariant, c.octets_in-count.ensures, c.if-count-left.true)

pub loop-piece-preserved : goal.loop-piece-preserved
loop-piece-preserved c =
    let next = count_next c.args.pieces.now c.loop-piece.piece-index c.piece-item.result c.loop-piece-test.true c.piece-item.is in
    omega (arith, next, c.loop-piece.invariant, c.octets_in-count.ensures, c.if-count-left.false)
