use Rattle.theory_requests.proofs.Ending as laws
use Rattle.theory_requests.proofs.requests_are_told.Goals as goal

pub returns-clause-whole : goal.returns-clause-whole
returns-clause-whole c = laws.request_sent

pub returns-clause-part : goal.returns-clause-part
returns-clause-part c = laws.request_unsent
