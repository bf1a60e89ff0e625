use Rattle.theory_receive_windows.specs.State.{tape_of, state_of}
use Rattle.theory_receive_windows.proofs.Resting.{receiving}
use Rattle.theory_receive_windows.proofs.Admitting as admitting
use Rattle.theory_receive_windows.proofs.admission_is_told.Goals as goal

pub returns-clause-admits : goal.returns-clause-admits
returns-clause-admits c more passing moves gates event all told = admitting.admits_same (tape_of moves) (state_of more passing moves) gates told event (receiving more passing moves all).counting

pub returns-clause-room : goal.returns-clause-room
returns-clause-room c more passing moves gates k all told = admitting.room_same (tape_of moves) (state_of more passing moves) gates told k

pub returns-clause-beside : goal.returns-clause-beside
returns-clause-beside c known more passing moves gates held event all told h ok = admitting.admitted known (tape_of moves) (state_of more passing moves) gates told held (receiving more passing moves all).counting event h ok

pub returns-clause-only : goal.returns-clause-only
returns-clause-only c known more passing moves gates held event all told h may = admitting.admits_it known (tape_of moves) (state_of more passing moves) gates told held (receiving more passing moves all).counting event h may
