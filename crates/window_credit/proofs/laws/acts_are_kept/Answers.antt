use Rattle.std.proofs.Common.{length, ap, ◌∙◌, refl}
use Rattle.theory_receive_windows.specs.State.{add}
use Rattle.window_credit.proofs.Telling as telling
use Rattle.window_credit.proofs.laws.acts_are_kept.Goals as goal

pub returns-clause-opens : goal.returns-clause-opens
returns-clause-opens c = λ newest sides s k route h on none nobody no_out no_took. telling.opens_own newest sides s h s.stream k on none nobody no_out no_took

pub returns-clause-opens_beside : goal.returns-clause-opens_beside
returns-clause-opens_beside c = λ newest sides s k route h none nobody. telling.gives_beside newest sides s h s.stream k s.out none (λ j off. refl) nobody

pub returns-clause-uses : goal.returns-clause-uses
returns-clause-uses c = λ newest sides s k octets h on none its. telling.uses_own newest sides s h s.stream k (length octets) on none its

pub returns-clause-uses_beside : goal.returns-clause-uses_beside
returns-clause-uses_beside c = λ newest sides s k octets h none nobody. telling.gives_beside newest sides s h s.stream k (add k (length octets) s.out) none (telling.out_elsewhere s k (length octets)) nobody

pub returns-clause-puts : goal.returns-clause-puts
returns-clause-puts c = λ newest sides s k id octets side h found its last. telling.puts_own newest sides s h id side found (ap newest its ∙ last) k (length octets) its

pub returns-clause-puts_beside : goal.returns-clause-puts_beside
returns-clause-puts_beside c = λ newest sides s k octets h elsewhere. telling.puts_beside newest sides s h k (length octets) elsewhere
