use Rattle.theory_receive_windows.proofs.Returning as returning
use Rattle.theory_receive_windows.proofs.one_stream_returns.Goals as goal

pub returns : goal.returns
returns c = returning.one_returns_of_moves
