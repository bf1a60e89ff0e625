use Rattle.connection_state.proofs.SendingEvents as laws
use Rattle.connection_state.proofs.sending_laws.events_lead.Goals as goal

pub returns-clause-fails : goal.returns-clause-fails
returns-clause-fails c = laws.fails_lead

pub returns-clause-heard : goal.returns-clause-heard
returns-clause-heard c = laws.heard_lead

pub returns-clause-took : goal.returns-clause-took
returns-clause-took c = laws.took_leads

pub returns-clause-drains : goal.returns-clause-drains
returns-clause-drains c = laws.drain_leads
