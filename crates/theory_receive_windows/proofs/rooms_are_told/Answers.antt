use Rattle.theory_receive_windows.specs.State.{tape_of, state_of}
use Rattle.theory_receive_windows.proofs.Resting as resting
use Rattle.theory_receive_windows.proofs.rooms_are_told.Goals as goal

pub returns-clause-shared : goal.returns-clause-shared
returns-clause-shared c more passing moves all = resting.shared_room more passing (tape_of moves) (state_of more passing moves) (resting.receiving more passing moves all)

pub returns-clause-own : goal.returns-clause-own
returns-clause-own c more passing moves id all on = resting.own_room more passing (tape_of moves) (state_of more passing moves) id (resting.receiving more passing moves all) on
