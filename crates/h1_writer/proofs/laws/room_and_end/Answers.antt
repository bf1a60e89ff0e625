use Rattle.h1_writer.proofs.Wholes.{room_to_push, end_to_finish}
use Rattle.h1_writer.proofs.laws.room_and_end.Goals as goal

pub returns-clause-room : goal.returns-clause-room
returns-clause-room c = room_to_push

pub returns-clause-end : goal.returns-clause-end
returns-clause-end c = end_to_finish
