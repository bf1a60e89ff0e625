use Rattle.request_rules.proofs.RuleTests.{match_names}
use Rattle.request_rules.proofs.rules.names_hold.Goals as goal

pub returns : goal.returns
returns c = match_names c.names_hold.result c.args.head.now c.names_hold.ensures
