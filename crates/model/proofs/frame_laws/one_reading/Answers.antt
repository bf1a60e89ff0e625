use Rattle.model.proofs.FramesReadings.{one_frame, one_text, one_connection}
use Rattle.model.proofs.frame_laws.one_reading.Goals as goal

pub returns-clause-frame : goal.returns-clause-frame
returns-clause-frame c = one_frame

pub returns-clause-text : goal.returns-clause-text
returns-clause-text c = one_text

pub returns-clause-connection : goal.returns-clause-connection
returns-clause-connection c = one_connection
