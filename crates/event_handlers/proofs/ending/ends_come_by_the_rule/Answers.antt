use Rattle.event_handlers.proofs.ending.Ends as laws
use Rattle.event_handlers.proofs.ending.ends_come_by_the_rule.Goals as goal

pub returns : goal.returns
returns c = laws.is_ended
