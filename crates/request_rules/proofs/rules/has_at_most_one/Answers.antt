use Rattle.std.proofs.Common.{◌∙◌}
use Rattle.request_rules.proofs.FieldLists.{count_values}
use Rattle.request_rules.proofs.RuleTests.{match_at_most}
use Rattle.request_rules.proofs.rules.has_at_most_one.Goals as goal

pub returns : goal.returns
returns c = match_at_most c.count.result 1 _ (c.count.ensures ∙ count_values c.args.name.now c.args.head.now)
