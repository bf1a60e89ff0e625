use Rattle.std.proofs.Common.{◌≡◌, drop}
use Rattle.model.specs.Http1.{values_of}
use Rattle.field_rules.proofs.fields.first_value.Given as goal

abbrev pub invariant-loop-field : goal.invariant-loop-field
invariant-loop-field l = values_of l.name (drop l.field-index l.head) ≡ values_of l.name l.head
