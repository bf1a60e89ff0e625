use Rattle.std.proofs.Common.{◌≡◌, ◌-◌, ◌^◌, min, take}
use Rattle.h1_reader.specs.Views.{parts_of}
use Rattle.exchange_log.proofs.Pieces.{octets_in}
use Rattle.exchange_log.proofs.exchange.octets_in.Given as goal

abbrev pub invariant-loop-piece : goal.invariant-loop-piece
invariant-loop-piece l = l.count ≡ min (octets_in (parts_of (take l.piece-index l.pieces))) (2 ^ 64 - 1)
