use Rattle.std.proofs.Common.{◌≡◌, ◌++◌, take, filter}
use Rattle.request_rules.specs.Sent.{is_passed}
use Rattle.request_rules.proofs.trailers.push_passed.Given as goal

abbrev pub invariant-loop-field : goal.invariant-loop-field
invariant-loop-field l = l.passed.items ≡ l.initial.passed.items ++ filter is_passed (take l.field-index l.trailers)
