use Rattle.std.proofs.Common.{subst}
use Rattle.frames.specs.Views.{frame_of}
use Rattle.frames.specs.Parsed.{Says}
use Rattle.frames.specs.declared.parts.Frame.{Frame}
use Rattle.connection_state.proofs.Answering.{reset_of_stream, data_of_stream}
use Rattle.connection_state.proofs.connection.Connection.take.Goals as goal

pub take_reset-requires-clause-of_stream : goal.take_reset-requires-clause-of_stream
take_reset-requires-clause-of_stream c =
    let says = subst (λ (f : Frame). Says f (frame_of c.args.view)) c.in-RstStream.is c.requires.says in
    reset_of_stream c.args.self.now (frame_of c.args.view) says.0 c.requires.sound

pub take_data-requires-clause-of_stream : goal.take_data-requires-clause-of_stream
take_data-requires-clause-of_stream c =
    let says = subst (λ (f : Frame). Says f (frame_of c.args.view)) c.in-Data.is c.requires.says in
    data_of_stream c.args.self.now (frame_of c.args.view) says.0 c.requires.sound

pub returns-in-Settings-clause-judged : goal.returns-in-Settings-clause-judged
returns-in-Settings-clause-judged c = λ setup outside bound. c.take_settings_or_ack.ensures.judged setup outside

pub returns-in-Ping-clause-judged : goal.returns-in-Ping-clause-judged
returns-in-Ping-clause-judged c = λ setup outside bound. c.take_ping.ensures.judged setup outside

pub returns-in-WindowUpdate-clause-judged : goal.returns-in-WindowUpdate-clause-judged
returns-in-WindowUpdate-clause-judged c = λ setup outside bound. c.take_update.ensures.judged setup outside

pub returns-in-WindowUpdate-2-clause-judged : goal.returns-in-WindowUpdate-2-clause-judged
returns-in-WindowUpdate-2-clause-judged c = λ setup outside bound. c.take_stream_update.ensures.judged setup outside

pub returns-in-RstStream-clause-judged : goal.returns-in-RstStream-clause-judged
returns-in-RstStream-clause-judged c = λ setup outside bound. c.take_reset.ensures.judged setup outside

pub returns-in-Other-clause-judged : goal.returns-in-Other-clause-judged
returns-in-Other-clause-judged c = λ setup outside bound. c.take_other.ensures.judged setup outside
