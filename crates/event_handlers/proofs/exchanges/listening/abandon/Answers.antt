use Rattle.event_handlers.proofs.Results.{stopped}
use Rattle.event_handlers.proofs.exchanges.listening.abandon.Goals as goal

pub returns-in_err-waiting-clause-over : goal.returns-in_err-waiting-clause-over
returns-in_err-waiting-clause-over c = stopped c.from_residual.result c.in_err-waiting.field-0.0 c.from_residual.ensures.1 (λ is. is) c.in_err-waiting.ensures.over
