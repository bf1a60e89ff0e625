use Rattle.request_rules.proofs.MalformedTests.{head_fails, kept_passes, memory_passes}
use Rattle.request_rules.proofs.check.check_head.Goals as goal

pub returns-in-Some-clause-malformed : goal.returns-in-Some-clause-malformed
returns-in-Some-clause-malformed c = head_fails c.in-Some.rule c.args.head.now c.args.ended c.in-Some.ensures

pub returns-in-Some-clause-memory : goal.returns-in-Some-clause-memory
returns-in-Some-clause-memory c = memory_passes c.in-Some.rule c.args.head.now c.args.ended c.in-Some.ensures

pub returns-in-Ok-clause-passes : goal.returns-in-Ok-clause-passes
returns-in-Ok-clause-passes c = kept_passes c.args.head.now c.args.ended c.in_default.ensures

pub returns-in-Err-clause-memory : goal.returns-in-Err-clause-memory
returns-in-Err-clause-memory c = λ e. kept_passes c.args.head.now c.args.ended c.in_default.ensures
