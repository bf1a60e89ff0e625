use Rattle.theory_errors.proofs.Paying as laws
use Rattle.theory_errors.proofs.goaways_stand_in.Goals as goal

pub returns-clause-may : goal.returns-clause-may
returns-clause-may c = laws.may_stand

pub returns-clause-stood : goal.returns-clause-stood
returns-clause-stood c = laws.stood
