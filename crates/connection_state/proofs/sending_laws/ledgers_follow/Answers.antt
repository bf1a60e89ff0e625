use Rattle.connection_state.proofs.SendingEvents as laws
use Rattle.connection_state.proofs.sending_laws.ledgers_follow.Goals as goal

pub returns-clause-sent : goal.returns-clause-sent
returns-clause-sent c = laws.sent_ledger

pub returns-clause-did : goal.returns-clause-did
returns-clause-did c = laws.did_ledger

pub returns-clause-happened : goal.returns-clause-happened
returns-clause-happened c = laws.happened_ledger
