use Rattle.model.specs.Http2.{connection_names}
use Rattle.request_rules.proofs.RuleTests.{match_without}
use Rattle.request_rules.proofs.rules.has_no_connection_field.Goals as goal

pub returns : goal.returns
returns c = match_without connection_names c.has_no_connection_field.result c.args.head.now c.has_no_connection_field.ensures
