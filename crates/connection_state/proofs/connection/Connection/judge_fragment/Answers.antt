use Rattle.frames.specs.Views.{frame_of}
use Rattle.connection_state.proofs.Fragmenting.{frame_judged}
use Rattle.connection_state.proofs.connection.Connection.judge_fragment.Goals as goal

pub returns-in-Err : goal.returns-in-Err
returns-in-Err c = λ setup outside for crowded. frame_judged setup outside c.args.self.now (frame_of c.args.view) c.in-Err.code (c.in-Err.ensures.refused outside)
