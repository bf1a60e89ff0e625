use Rattle.connection_state.proofs.SendingBooks as laws
use Rattle.connection_state.proofs.sending_laws.sent_frames_lead.Goals as goal

pub returns-clause-fragment : goal.returns-clause-fragment
returns-clause-fragment c = laws.fragment_leads

pub returns-clause-block : goal.returns-clause-block
returns-clause-block c = laws.block_leads

pub returns-clause-data : goal.returns-clause-data
returns-clause-data c = laws.data_leads

pub returns-clause-reset : goal.returns-clause-reset
returns-clause-reset c = laws.reset_leads

pub returns-clause-update : goal.returns-clause-update
returns-clause-update c = laws.update_leads

pub returns-clause-stream_update : goal.returns-clause-stream_update
returns-clause-stream_update c = laws.stream_update_leads

pub returns-clause-control : goal.returns-clause-control
returns-clause-control c = laws.control_leads
