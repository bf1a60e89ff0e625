use Rattle.request_rules.proofs.RuleTests.{match_authority_count}
use Rattle.request_rules.proofs.rules.authority_count_holds.Goals as goal

pub returns-then-connect : goal.returns-then-connect
returns-then-connect c = match_authority_count _ c.args.connect c.args.head.now c.count-count.result c.count-count.ensures (rw c.if-connect.true)

pub returns-else-connect : goal.returns-else-connect
returns-else-connect c = match_authority_count _ c.args.connect c.args.head.now c.count-count.result c.count-count.ensures (rw c.if-connect.false)
