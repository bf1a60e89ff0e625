use Rattle.connection_state.proofs.SendingEvents as laws
use Rattle.connection_state.proofs.sending_laws.acts_lead.Goals as goal

pub returns-clause-opens : goal.returns-clause-opens
returns-clause-opens c = laws.opens_lead

pub returns-clause-puts : goal.returns-clause-puts
returns-clause-puts c = laws.puts_lead

pub returns-clause-closes : goal.returns-clause-closes
returns-clause-closes c = laws.closes_lead

pub returns-clause-shuts : goal.returns-clause-shuts
returns-clause-shuts c = laws.shuts_lead
