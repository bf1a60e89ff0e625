use Rattle.h1_writer.proofs.Wholes.{unfinished_front, unfinished_none}
use Rattle.h1_writer.proofs.laws.unfinished_goes_on.Goals as goal

pub returns-clause-front : goal.returns-clause-front
returns-clause-front c = unfinished_front

pub returns-clause-none : goal.returns-clause-none
returns-clause-none c = unfinished_none
