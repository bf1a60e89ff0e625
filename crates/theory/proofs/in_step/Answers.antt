use Rattle.theory.proofs.Keeping as keeping
use Rattle.theory.proofs.in_step.Goals as goal

pub returns : goal.returns
returns c known run knows all answered rests = keeping.in_step known run (record { knows = knows; all = all; answered = answered }) rests
