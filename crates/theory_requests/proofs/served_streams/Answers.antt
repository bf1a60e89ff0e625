use Rattle.theory_requests.proofs.Sources as sources
use Rattle.theory_requests.proofs.served_streams.Goals as goal

pub returns : goal.returns
returns c = sources.served_by_parts
