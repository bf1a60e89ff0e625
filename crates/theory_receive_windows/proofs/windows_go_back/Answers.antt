use Rattle.theory_receive_windows.proofs.Resting as resting
use Rattle.theory_receive_windows.proofs.Withholding as withholding
use Rattle.theory_receive_windows.proofs.windows_go_back.Goals as goal

pub returns-clause-at_rest : goal.returns-clause-at_rest
returns-clause-at_rest c = resting.gives_back_at_rest

pub returns-clause-no_more : goal.returns-clause-no_more
returns-clause-no_more c = resting.gives_no_more

pub returns-clause-holds_back : goal.returns-clause-holds_back
returns-clause-holds_back c = withholding.holds_back
