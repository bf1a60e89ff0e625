use Rattle.std.proofs.Common.{◌≡◌, ◌≤◌, take}
use Rattle.model.specs.ResponseHeads.{named_by_connection}
use Rattle.response_texts.specs.HeadSizes.{field_octets}
use Rattle.response_texts.proofs.fields.connections.Given as goal

abbrev pub invariant-loop-field : goal.invariant-loop-field
invariant-loop-field l =
    (named_by_connection l.found.items ≡ named_by_connection (take l.field-index l.fields)) × (field_octets l.found.items ≤ field_octets (take l.field-index l.fields))
