use Rattle.model.proofs.LayersStreams.{changed_state, other_state, same_ids}
use Rattle.model.proofs.layers.one_stream_changes.Goals as goal

pub returns-clause-this : goal.returns-clause-this
returns-clause-this c = changed_state

pub returns-clause-others : goal.returns-clause-others
returns-clause-others c = other_state

pub returns-clause-ids : goal.returns-clause-ids
returns-clause-ids c = same_ids
