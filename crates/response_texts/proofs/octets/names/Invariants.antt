use Rattle.std.proofs.Common.{◌≡◌, length}
use Rattle.std.specs.Prelude.{bytes_eq}
use Rattle.std.specs.List.{list_any}
use Rattle.model.specs.ResponseHeads.{names_in}
use Rattle.response_texts.proofs.octets.names.Given as goal

abbrev pub invariant-loop-more : goal.invariant-loop-more
invariant-loop-more l = list_any (bytes_eq l.name) (names_in l.rest) ≡ list_any (bytes_eq l.name) (names_in l.value)

abbrev pub decreases-loop-more : goal.decreases-loop-more
decreases-loop-more l = length l.rest
