use Rattle.theory.proofs.Unended as unended
use Rattle.theory.proofs.open_connections_go_on.Goals as goal

pub returns : goal.returns
returns c known run knows all answered rests = unended.open_go_on known run (record { knows = knows; all = all; answered = answered }) rests
