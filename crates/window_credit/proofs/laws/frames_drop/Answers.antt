use Rattle.window_credit.proofs.Telling as telling
use Rattle.window_credit.proofs.laws.frames_drop.Goals as goal

pub returns-clause-came : goal.returns-clause-came
returns-clause-came c = λ newest sides s noted opens over h new. telling.came newest sides s h noted opens over new

pub returns-clause-came_back : goal.returns-clause-came_back
returns-clause-came_back c = λ newest sides s noted opens over h on. telling.drops newest sides s h over noted.frame.id on

pub returns-clause-sent : goal.returns-clause-sent
returns-clause-sent c = λ newest sides s noted over h. telling.sent newest sides s h noted over

pub returns-clause-sent_back : goal.returns-clause-sent_back
returns-clause-sent_back c = λ newest sides s noted over h on. telling.drops newest sides s h over noted.frame.id on

pub returns-clause-given : goal.returns-clause-given
returns-clause-given c = λ newest sides s shared noted h. telling.gives newest sides s h shared noted
