use Rattle.std.proofs.Common.{◌∙◌}
use Rattle.exchange_log.proofs.Pieces.{any_is_done}
use Rattle.exchange_log.proofs.exchange.is_whole.Goals as goal

pub returns : goal.returns
returns c = c.has_last.ensures ∙ any_is_done c.args.pieces.now
