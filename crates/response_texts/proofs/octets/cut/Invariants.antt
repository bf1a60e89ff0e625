use Rattle.std.proofs.Common.{◌≡◌, take, true}
use Rattle.std.specs.List.{list_all}
use Rattle.response_texts.proofs.Texts.{is_other}
use Rattle.response_texts.proofs.octets.cut.Given as goal

abbrev pub invariant-loop-place : goal.invariant-loop-place
invariant-loop-place l = list_all is_other (take l.place l.text) ≡ true
