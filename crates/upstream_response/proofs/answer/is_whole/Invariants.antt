use Rattle.std.proofs.Common.{◌≡◌, take, false}
use Rattle.h1_reader.specs.Standing.{is_done}
use Rattle.h1_reader.specs.Views.{parts_of}
use Rattle.upstream_response.proofs.answer.is_whole.Given as goal

abbrev pub invariant-loop-piece : goal.invariant-loop-piece
invariant-loop-piece l = is_done (parts_of (take l.piece-index l.pieces)) ≡ false
