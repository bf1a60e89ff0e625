use Rattle.std.proofs.Common.{length}
use Rattle.response_texts.proofs.framing.+first_value.Given as goal

abbrev pub decreases-first_value : goal.decreases-first_value
decreases-first_value l = length l.fields.now
