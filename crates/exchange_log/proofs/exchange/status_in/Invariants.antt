use Rattle.std.proofs.Common.{◌≡◌, take, None}
use Rattle.h1_reader.specs.Views.{parts_of}
use Rattle.exchange_log.proofs.Pieces.{status_in}
use Rattle.exchange_log.proofs.exchange.status_in.Given as goal

abbrev pub invariant-loop-piece : goal.invariant-loop-piece
invariant-loop-piece l = status_in (parts_of (take l.piece-index l.pieces)) ≡ None
