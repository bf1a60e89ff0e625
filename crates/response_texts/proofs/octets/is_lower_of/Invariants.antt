use Rattle.std.proofs.Common.{◌≡◌, drop}
use Rattle.std.specs.Prelude.{bytes_eq}
use Rattle.model.specs.Octets.{lower}
use Rattle.response_texts.proofs.octets.is_lower_of.Given as goal

abbrev pub invariant-loop-place : goal.invariant-loop-place
invariant-loop-place l = bytes_eq (drop l.place l.name) (lower (drop l.place l.text)) ≡ bytes_eq l.name (lower l.text)
