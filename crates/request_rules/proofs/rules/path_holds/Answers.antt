use Rattle.std.specs.Prelude.{codes}
use Rattle.model.specs.Http2.{is_path_for, method_of}
use Rattle.request_rules.proofs.RuleTests.{match_named}
use Rattle.request_rules.proofs.rules.path_holds.Goals as goal

pub returns : goal.returns
returns c = match_named (codes ":path") (is_path_for (method_of c.args.head.now)) c.path_holds.result c.args.head.now (rw (← c.first_value.ensures) c.path_holds.ensures)
