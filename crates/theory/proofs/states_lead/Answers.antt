use Rattle.theory.proofs.Stepping as stepping
use Rattle.theory.proofs.states_lead.Goals as goal

pub returns-clause-one : goal.returns-clause-one
returns-clause-one c = stepping.one_more

pub returns-clause-all : goal.returns-clause-all
returns-clause-all c = stepping.led

pub returns-clause-further : goal.returns-clause-further
returns-clause-further c = stepping.leads_then
