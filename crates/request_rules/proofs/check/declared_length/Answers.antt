use Rattle.std.proofs.Common.{◌∙◌, ap}
use Rattle.std.specs.Str.Parse.{digits_value}
use Rattle.request_rules.proofs.RuleTests.{none_declared, some_declared}
use Rattle.request_rules.proofs.check.declared_length.Goals as goal

pub returns-then-count-eq0 : goal.returns-then-count-eq0
returns-then-count-eq0 c = none_declared c.args.head.now c.count.result c.count.ensures c.if-count-eq0.true

pub returns : goal.returns
returns c =
    some_declared c.args.head.now c.count.result c.number.result c.count.ensures c.if-count-eq0.false (c.number.ensures ∙ ap (digits_value 10) c.first_value.ensures)
