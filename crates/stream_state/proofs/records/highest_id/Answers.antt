use Rattle.stream_state.proofs.Searches.{highest_is_last}
use Rattle.stream_state.proofs.records.highest_id.Goals as goal

pub returns : goal.returns
returns c = highest_is_last c.args.records.now c.requires c.in-len1-up.len_at_least
