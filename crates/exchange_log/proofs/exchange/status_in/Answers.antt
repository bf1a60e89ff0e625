use Rattle.std.proofs.Common.{Some, sym, ◌∷◌, ◌∙◌, ap}
use Rattle.h1_reader.specs.Views.{part_of}
use Rattle.exchange_log.proofs.Pieces.{status_in, found, none_more, no_head}
use Rattle.exchange_log.proofs.exchange.status_in.Goals as goal

pub returns-in-Head : goal.returns-in-Head
returns-in-Head c =
    sym (found c.args.pieces.now c.loop-piece.piece-index c.piece-item.result c.status.result c.loop-piece-test.true c.piece-item.is c.loop-piece.invariant
    (λ rest. ap (λ q. status_in (part_of q ∷ rest)) c.in-Head.is ∙ ap Some (sym c.status.ensures)))

pub loop-piece-preserved : goal.loop-piece-preserved
loop-piece-preserved c =
    none_more c.args.pieces.now c.loop-piece.piece-index c.piece-item.result c.loop-piece-test.true c.piece-item.is c.loop-piece.invariant
    (no_head c.piece-item.result c.in_default.not-Head)
