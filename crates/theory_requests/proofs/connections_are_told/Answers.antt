use Rattle.theory_requests.proofs.Connections as laws
use Rattle.theory_requests.proofs.connections_are_told.Goals as goal

pub returns-clause-up : goal.returns-clause-up
returns-clause-up c = laws.connections_told

pub returns-clause-heard : goal.returns-clause-heard
returns-clause-heard c = laws.events_heard

pub returns-clause-opened : goal.returns-clause-opened
returns-clause-opened c = laws.next_opened

pub returns-clause-used : goal.returns-clause-used
returns-clause-used c = laws.idle_used

pub returns-clause-sent : goal.returns-clause-sent
returns-clause-sent c = laws.octets_sent

pub returns-clause-past : goal.returns-clause-past
returns-clause-past c = laws.earlier_ended
