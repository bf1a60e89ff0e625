use Rattle.std.proofs.Common.{◌≡◌, ◌+◌, take, length}
use Rattle.h1_reader.specs.Views.{parts_of}
use Rattle.upstream_response.specs.Telling.{body_of}
use Rattle.upstream_response.proofs.answer.are_past.Given as goal

abbrev pub invariant-loop-piece : goal.invariant-loop-piece
invariant-loop-piece l = length (body_of (parts_of (take l.piece-index l.pieces))) + l.left ≡ l.most
