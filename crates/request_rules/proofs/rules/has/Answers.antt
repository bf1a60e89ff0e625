use Rattle.std.proofs.Common.{◌∙◌}
use Rattle.request_rules.proofs.FieldLists.{count_values}
use Rattle.request_rules.proofs.RuleTests.{match_equal}
use Rattle.request_rules.proofs.rules.has.Goals as goal

pub returns : goal.returns
returns c = match_equal c.count.result c.args.count _ (c.count.ensures ∙ count_values c.args.name.now c.args.head.now)
