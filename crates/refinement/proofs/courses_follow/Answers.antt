use Rattle.refinement.proofs.Bringing as laws
use Rattle.refinement.proofs.courses_follow.Goals as goal

pub returns-clause-none : goal.returns-clause-none
returns-clause-none c = laws.own_none

pub returns-clause-own : goal.returns-clause-own
returns-clause-own c = laws.own_then

pub returns-clause-brings : goal.returns-clause-brings
returns-clause-brings c = laws.brings_then
