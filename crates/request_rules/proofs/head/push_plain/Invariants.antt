use Rattle.std.proofs.Common.{◌≡◌, ◌++◌, take, filter}
use Rattle.request_rules.specs.Sent.{is_plain}
use Rattle.request_rules.proofs.head.push_plain.Given as goal

abbrev pub invariant-loop-field : goal.invariant-loop-field
invariant-loop-field l = l.fields.items ≡ l.initial.fields.items ++ filter is_plain (take l.field-index l.head)
