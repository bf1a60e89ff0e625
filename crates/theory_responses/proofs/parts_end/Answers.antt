use Rattle.theory_responses.proofs.Parts as parts
use Rattle.theory_responses.proofs.parts_end.Goals as goal

pub returns : goal.returns
returns c = parts.weight_less
