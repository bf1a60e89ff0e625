use Rattle.theory.proofs.Holding as laws
use Rattle.theory.proofs.little_is_held.Goals as goal

pub returns-clause-connection : goal.returns-clause-connection
returns-clause-connection c = laws.little_on_connection

pub returns-clause-stream : goal.returns-clause-stream
returns-clause-stream c = laws.little_for

pub returns-clause-streams : goal.returns-clause-streams
returns-clause-streams c = λ known run knows all answered rests open_yet. (laws.few_boxes known run knows all answered rests open_yet, laws.few_requests known run knows all answered rests open_yet)

pub returns-clause-all : goal.returns-clause-all
returns-clause-all c = laws.little_in_all

pub returns-clause-closed : goal.returns-clause-closed
returns-clause-closed c = laws.none_at_close
