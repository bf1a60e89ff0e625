use Rattle.exchange_log.proofs.Pieces.{counted_next}
use Rattle.exchange_log.proofs.exchange.octets_in.Goals as goal

pub loop-piece-preserved : goal.loop-piece-preserved
loop-piece-preserved c =
    counted_next c.args.pieces.now c.loop-piece.piece-index c.piece-item.result c.loop-piece.count c.octets_of.result c.saturating_add-count.result c.loop-piece-test.true c.piece-item.is c.loop-piece.invariant c.octets_of.ensures c.saturating_add-count.ensures
