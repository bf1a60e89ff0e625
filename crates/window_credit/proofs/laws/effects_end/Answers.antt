use Rattle.std.proofs.Common.{ap, refl}
use Rattle.theory_receive_windows.specs.Marks.{total}
use Rattle.window_credit.proofs.Telling as telling
use Rattle.window_credit.proofs.laws.effects_end.Goals as goal

pub returns-clause-must_wait : goal.returns-clause-must_wait
returns-clause-must_wait c = λ newest sides s side h found last. telling.must_wait_is newest sides s h s.stream side found last refl

pub returns-clause-waits : goal.returns-clause-waits
returns-clause-waits c = λ newest sides s side h found last. telling.waits_own newest sides s h s.stream side found last s.count

pub returns-clause-goes_back : goal.returns-clause-goes_back
returns-clause-goes_back c = λ newest sides s h. telling.owes newest sides s h s.stream s.count

pub returns-clause-held : goal.returns-clause-held
returns-clause-held c = λ newest sides s id h on. ap total (telling.queue_is newest sides s h id on)

pub returns-clause-untaken : goal.returns-clause-untaken
returns-clause-untaken c = telling.untaken_newest

pub returns-clause-newest : goal.returns-clause-newest
returns-clause-newest c = λ newest sides s id side h found last. telling.newest_is newest sides s h id side found last
