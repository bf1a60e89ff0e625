use Rattle.frames.specs.Views.{frame_of}
use Rattle.connection_state.proofs.Answering.{other_quiet}
use Rattle.connection_state.proofs.connection.Connection.take_other.Goals as goal

pub take_quiet-requires-clause-quiet : goal.take_quiet-requires-clause-quiet
take_quiet-requires-clause-quiet c = other_quiet (frame_of c.args.view) c.requires.says
