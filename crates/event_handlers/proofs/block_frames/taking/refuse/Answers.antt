use Rattle.event_handlers.proofs.Results.{stopped}
use Rattle.event_handlers.proofs.block_frames.taking.refuse.Goals as goal

pub returns-in_err-dropped-clause-over : goal.returns-in_err-dropped-clause-over
returns-in_err-dropped-clause-over c = stopped c.from_residual.result c.in_err-dropped.field-0.0 c.from_residual.ensures.1 (λ is. is) c.in_err-dropped.ensures.over
