use Rattle.std.proofs.Common.{◌≡◌, take, map}
use Rattle.response_texts.specs.Heads.{field_from}
use Rattle.response_texts.proofs.head.fields_at.Given as goal

abbrev pub invariant-loop-line : goal.invariant-loop-line
invariant-loop-line l = l.fields.items ≡ map (field_from l.text) (take l.line-index l.lines)
