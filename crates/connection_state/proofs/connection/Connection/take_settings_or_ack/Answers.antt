use Rattle.std.proofs.Common.{sym}
use Rattle.frames.specs.Views.{frame_of}
use Rattle.connection_state.proofs.Answering.{ack_quiet}
use Rattle.connection_state.proofs.connection.Connection.take_settings_or_ack.Goals as goal

pub take_quiet-requires-clause-quiet : goal.take_quiet-requires-clause-quiet
take_quiet-requires-clause-quiet c = ack_quiet (frame_of c.args.view) c.requires.says.0 (sym c.if-not-has_settings.ensures)
