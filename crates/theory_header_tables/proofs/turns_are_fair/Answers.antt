use Rattle.theory_header_tables.proofs.Turned.{turns_fair}
use Rattle.theory_header_tables.proofs.turns_are_fair.Goals as goal

pub returns : goal.returns
returns c = turns_fair
