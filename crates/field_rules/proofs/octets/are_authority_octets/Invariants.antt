use Rattle.std.proofs.Common.{◌≡◌, take}
use Rattle.std.specs.List.{list_all}
use Rattle.model.specs.Http2.{is_authority_octet}
use Rattle.field_rules.proofs.octets.are_authority_octets.Given as goal

abbrev pub invariant-loop-octet : goal.invariant-loop-octet
invariant-loop-octet l = l.all ≡ list_all is_authority_octet (take l.octet-index l.text)
