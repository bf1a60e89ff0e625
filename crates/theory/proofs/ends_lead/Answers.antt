use Rattle.theory.proofs.EndingStarts as ending
use Rattle.theory.proofs.EndingFrames as frames
use Rattle.theory.proofs.EndingAnswers as answers
use Rattle.theory.proofs.ends_lead.Goals as goal

pub returns-clause-client : goal.returns-clause-client
returns-clause-client c = ending.client_leads

pub returns-clause-breach : goal.returns-clause-breach
returns-clause-breach c = ending.breach_leads

pub returns-clause-frame : goal.returns-clause-frame
returns-clause-frame c = frames.frame_leads

pub returns-clause-answered : goal.returns-clause-answered
returns-clause-answered c = answers.answered

pub returns-clause-calming : goal.returns-clause-calming
returns-clause-calming c = ending.calming_leads
