use Rattle.std.proofs.Common.{◌≡◌, ◌∷◌, take, filter}
use Rattle.std.specs.Prelude.{codes}
use Rattle.model.specs.Http1.{values_of}
use Rattle.model.specs.Http2.{joined_by}
use Rattle.request_rules.specs.Sent.{is_sent}
use Rattle.request_rules.proofs.head.joined_cookies.Given as goal

abbrev pub invariant-loop-field : goal.invariant-loop-field
invariant-loop-field l = l.joined.items ≡ joined_by (codes "; ") (l.first ∷ values_of (codes "cookie") (filter is_sent (take l.field-index l.others)))
