use Rattle.theory_requests.proofs.Clauses as clauses
use Rattle.theory_requests.proofs.requests_are_served.Goals as goal

pub returns : goal.returns
returns c = clauses.clauses_hold
