use Rattle.theory_responses.proofs.SentOctets as octets
use Rattle.theory_responses.proofs.frames_go_unpadded.Goals as goal

pub returns : goal.returns
returns c = octets.unpadded
