use Rattle.std.proofs.Common.{sym, ◌∙◌}
use Rattle.upstream_response.proofs.Pieces.{one_ends, none_more}
use Rattle.upstream_response.proofs.answer.is_whole.Goals as goal

pub returns-then-is_end : goal.returns-then-is_end
returns-then-is_end c = sym (one_ends c.args.pieces.now c.loop-piece.piece-index c.piece-item.result c.loop-piece-test.true c.piece-item.is (sym c.is_end.ensures ∙ c.if-is_end.true))

pub loop-piece-preserved : goal.loop-piece-preserved
loop-piece-preserved c = none_more c.args.pieces.now c.loop-piece.piece-index c.piece-item.result c.loop-piece-test.true c.piece-item.is c.loop-piece.invariant (sym c.is_end.ensures ∙ c.if-is_end.false)
