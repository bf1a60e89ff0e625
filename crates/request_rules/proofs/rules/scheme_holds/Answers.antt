use Rattle.std.specs.Prelude.{codes, bytes_eq, ◌||◌}
use Rattle.request_rules.proofs.RuleTests.{match_named}
use Rattle.request_rules.proofs.rules.scheme_holds.Goals as goal

pub returns : goal.returns
returns c = match_named (codes ":scheme") (λ value. bytes_eq value (codes "http") || bytes_eq value (codes "https")) c.scheme_holds.result c.args.head.now c.scheme_holds.ensures
