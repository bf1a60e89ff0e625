use Rattle.frames.specs.Views.{frame_of}
use Rattle.connection_state.proofs.Answering.{ping_quiet}
use Rattle.connection_state.proofs.connection.Connection.take_ping.Goals as goal

pub take_quiet-requires-clause-quiet : goal.take_quiet-requires-clause-quiet
take_quiet-requires-clause-quiet c = ping_quiet (frame_of c.args.view) c.requires.says.0
