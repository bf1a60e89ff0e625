use Rattle.theory_errors.proofs.Paying as laws
use Rattle.theory_errors.proofs.debts_are_paid.Goals as goal

pub returns-clause-may : goal.returns-clause-may
returns-clause-may c = laws.may_pay

pub returns-clause-nothing : goal.returns-clause-nothing
returns-clause-nothing c = laws.owes_none

pub returns-clause-paid : goal.returns-clause-paid
returns-clause-paid c = laws.paid
