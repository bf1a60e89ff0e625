use Rattle.std.proofs.Common.{refl}
use Rattle.frames.specs.Views.{frame_of}
use Rattle.connection_state.specs.Inbound.{told_of}
use Rattle.model.specs.Errors.Fault.{Connection as Fatal}
use Rattle.connection_state.proofs.Rows.{fault_of_frame}
use Rattle.connection_state.proofs.connection.Connection.judge.Goals as goal

pub returns-in-Err-clause-judged : goal.returns-in-Err-clause-judged
returns-in-Err-clause-judged c = λ setup outside bound. record {
  is = fault_of_frame (told_of outside c.args.self.now) (frame_of c.args.view) (Fatal c.in-Err.code) (c.in-Err.ensures.refused outside);
  left = refl;
}
