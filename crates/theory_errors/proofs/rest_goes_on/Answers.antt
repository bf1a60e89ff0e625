use Rattle.theory_errors.proofs.Tidy as laws
use Rattle.theory_errors.proofs.rest_goes_on.Goals as goal

pub returns-clause-goes_on : goal.returns-clause-goes_on
returns-clause-goes_on c = laws.goes_on_at_rest

pub returns-clause-no_end : goal.returns-clause-no_end
returns-clause-no_end c = laws.nothing_ends
