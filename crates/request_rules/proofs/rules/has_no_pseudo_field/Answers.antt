use Rattle.request_rules.proofs.RuleTests.{match_no_pseudo}
use Rattle.request_rules.proofs.rules.has_no_pseudo_field.Goals as goal

pub returns : goal.returns
returns c = match_no_pseudo c.are_regular.result c.args.fields.now c.are_regular.ensures
