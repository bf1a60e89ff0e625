use Rattle.std.specs.Prelude.{codes, bytes_eq}
use Rattle.request_rules.proofs.RuleTests.{match_named}
use Rattle.request_rules.proofs.rules.te_holds.Goals as goal

pub returns : goal.returns
returns c = match_named (codes "te") (λ value. bytes_eq value (codes "trailers")) c.te_holds.result c.args.head.now c.te_holds.ensures
