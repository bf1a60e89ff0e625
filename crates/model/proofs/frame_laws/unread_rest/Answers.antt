use Rattle.model.proofs.FramesFronts.{too_long, short}
use Rattle.model.proofs.frame_laws.unread_rest.Goals as goal

pub returns-clause-too_long : goal.returns-clause-too_long
returns-clause-too_long c = too_long

pub returns-clause-short : goal.returns-clause-short
returns-clause-short c = short
