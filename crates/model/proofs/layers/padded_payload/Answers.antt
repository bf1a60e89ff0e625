use Rattle.model.proofs.LayersPayloads as lemmas
use Rattle.model.proofs.layers.padded_payload.Goals as goal

pub returns : goal.returns
returns c = lemmas.padded_payload
