use Rattle.std.proofs.Common.{sym, ◌∙◌}
use Rattle.header_blocks.proofs.Followed.{first_joined, room_for, none_at}
use Rattle.hpack_tests.proofs.joiner_tests.joins.Goals as goal

pub first-requires-clause-nothing : goal.first-requires-clause-nothing
first-requires-clause-nothing c = (first_joined c.args.joiner.now (record { kind = c.args.kind; flags = 0; id = c.args.id; payload = c.args.fragment.now }) (sym (c.fault.ensures 0) ∙ none_at c.fault.result c.if-is_some.ensures) c.if-kind-eq-HEADERS.true).0

pub more-requires : goal.more-requires
more-requires c = room_for c.args.joiner.now c.args.kind c.args.id c.args.fragment.now (sym (c.fault.ensures 0) ∙ none_at c.fault.result c.if-is_some.ensures) c.if-kind-eq-CONTINUATION.true
