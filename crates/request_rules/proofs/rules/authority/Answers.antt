use Rattle.std.proofs.Common.{◌∙◌}
use Rattle.request_rules.proofs.RuleTests.{no_pseudo_authority, pseudo_authority}
use Rattle.request_rules.proofs.rules.authority.Goals as goal

pub returns-then-count-eq0 : goal.returns-then-count-eq0
returns-then-count-eq0 c = c.first_value.ensures ∙ no_pseudo_authority c.args.head.now c.count.result c.count.ensures c.if-count-eq0.true

pub returns-else-count-eq0 : goal.returns-else-count-eq0
returns-else-count-eq0 c = c.first_value-else-count-eq0.ensures ∙ pseudo_authority c.args.head.now c.count.result c.count.ensures c.if-count-eq0.false
