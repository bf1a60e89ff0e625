use Rattle.theory_requests.proofs.Idling as laws
use Rattle.theory_requests.proofs.idle_answers.Goals as goal

pub returns-clause-octets : goal.returns-clause-octets
returns-clause-octets c = laws.hears_more

pub returns-clause-ended : goal.returns-clause-ended
returns-clause-ended c = laws.hears_end

pub returns-clause-none : goal.returns-clause-none
returns-clause-none c = laws.hears_none
