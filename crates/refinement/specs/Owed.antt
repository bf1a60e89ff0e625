-- What a frame of the client calls for, by the answer that the judgement gave.
use Rattle.std.specs.Prelude.{ℕ, Bool, List, [], ◌∷◌, Some, None}
use Rattle.model.specs.Frames.{Frame, settings_ack}
use Rattle.model.specs.Errors.{Fault}
use Rattle.model.specs.Errors.Fault.{Stream}
use Rattle.model.specs.Causes.{Cause}
use Rattle.model.specs.ErrorClause.{ping_ack, rst_stream, reset_for}
use Rattle.local_replies.specs.Views.{cause_of}
use Rattle.connection_state.specs.declared.answers.Judged.{Judged}
use Rattle.connection_state.specs.declared.answers.Judged.TheVariants as judged
use Rattle.connection_state.specs.declared.answers.BlockJudged.{BlockJudged}
use Rattle.connection_state.specs.declared.answers.BlockJudged.TheVariants as block

-- the reset of a stream to which the gateway replies itself from now on, where a response's final head is out
abbrev pub reset_behind : ℕ → Bool → Cause → List Frame
reset_behind id head_out cause = reset_for id head_out None (Some cause)

-- what a frame without a fragment calls for: settings and PING are acknowledged, and a stream is reset that is too late to be replied to
abbrev pub owed_for : ℕ → Bool → Judged → List Frame
owed_for id head_out (judged.Settings change) = settings_ack ∷ []
owed_for id head_out (judged.Ping octets) = ping_ack octets.now ∷ []
owed_for id head_out judged.LargeBody = reset_behind id head_out Cause.LargeBody
owed_for id head_out answer = []

-- what one with a fragment calls for beside the GOAWAY
abbrev pub owed_with_block : ℕ → Bool → BlockJudged → List Frame
owed_with_block id head_out (block.Answered cause) = reset_behind id head_out (cause_of cause)
owed_with_block id head_out answer = []

-- what a fault that isn't one of the connection calls for beside the GOAWAY
abbrev pub owed_at_fault : ℕ → Fault → List Frame
owed_at_fault id (Stream code) = rst_stream id code ∷ []
owed_at_fault id fault = []
