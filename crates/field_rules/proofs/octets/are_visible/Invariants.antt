use Rattle.std.proofs.Common.{◌≡◌, take}
use Rattle.std.specs.List.{list_all}
use Rattle.model.specs.Octets.{is_visible}
use Rattle.field_rules.proofs.octets.are_visible.Given as goal

abbrev pub invariant-loop-octet : goal.invariant-loop-octet
invariant-loop-octet l = l.all ≡ list_all is_visible (take l.octet-index l.text)
