use Rattle.theory_receive_windows.proofs.Marking as marking
use Rattle.theory_receive_windows.proofs.marks_wait.Goals as goal

pub returns : goal.returns
returns c = marking.by_marks
