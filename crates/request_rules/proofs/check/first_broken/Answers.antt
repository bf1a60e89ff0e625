use Rattle.request_rules.proofs.Ordinary.{keeps_all}
use Rattle.request_rules.proofs.check.first_broken.Goals as goal

pub returns-in-None : goal.returns-in-None
returns-in-None c = keeps_all c.before_ordinary.result.now c.args.head.now c.args.ended c.before_ordinary.ensures.ordinary c.in-None.ensures
