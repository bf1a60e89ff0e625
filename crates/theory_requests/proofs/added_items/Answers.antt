use Rattle.theory_requests.proofs.Sources as sources
use Rattle.theory_requests.proofs.added_items.Goals as goal

pub returns : goal.returns
returns c = sources.brings_by
