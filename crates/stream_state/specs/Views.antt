-- States, kinds and verdicts in words of the definitions.
use Rattle.std.specs.Prelude.{◌≡◌, ℕ, ◌<◌, IsTrue, if◌then◌else◌, max, List, length, map, fold}
use Rattle.model.specs.Errors.{Fault}
use Rattle.model.specs.Frames.{data_kind, headers_kind, rst_stream_kind, window_update_kind, refused_stream}
use Rattle.model.specs.StreamStates.{StreamState, is_active, Change, OpenedStream, is_above, Standing, Verdict}
use Rattle.model.specs.Limits.{most_streams}
use Rattle.stream_state.specs.declared.states.State.{State}
use Rattle.stream_state.specs.declared.states.State.TheVariants as state
use Rattle.stream_state.specs.declared.states.Step.{Step}
use Rattle.stream_state.specs.declared.states.Step.TheVariants as step
use Rattle.stream_state.specs.declared.verdicts.Kind.{Kind}
use Rattle.stream_state.specs.declared.verdicts.Kind.TheVariants as kind
use Rattle.stream_state.specs.declared.verdicts.Standing.{Standing as Found}
use Rattle.stream_state.specs.declared.verdicts.Standing.TheVariants as found
use Rattle.stream_state.specs.declared.verdicts.Verdict.{Verdict as Answer}
use Rattle.stream_state.specs.declared.verdicts.Verdict.TheVariants as answer

-- a state
abbrev pub state_in : State → StreamState
state_in state.Open = StreamState.Open
state_in state.HalfClosedRemote = StreamState.HalfClosedRemote
state_in state.HalfClosedLocal = StreamState.HalfClosedLocal
state_in state.Closed = StreamState.Closed
state_in state.ResetByPeer = StreamState.ResetByPeer
state_in state.ResetByUs = StreamState.ResetByUs

-- one where the stream is active, else none
abbrev pub counted : State → ℕ
counted state = if is_active (state_in state) then 1 else 0

-- what changes a state
abbrev pub change_in : Step → Change
change_in step.RemoteEnds = Change.RemoteEnds
change_in step.LocalEnds = Change.LocalEnds
change_in step.PeerResets = Change.PeerResets
change_in step.WeReset = Change.WeReset

-- a kind, as the number of its type
abbrev pub kind_in : Kind → ℕ
kind_in kind.Data = data_kind
kind_in kind.Headers = headers_kind
kind_in kind.RstStream = rst_stream_kind
kind_in kind.WindowUpdate = window_update_kind

-- a standing
abbrev pub standing_in : Found → Standing
standing_in found.WholeConnection = Standing.WholeConnection
standing_in (found.Opened state) = Standing.Opened (state_in state)
standing_in found.Idle = Standing.Idle
standing_in found.ServerIdle = Standing.ServerIdle
standing_in found.Skipped = Standing.Skipped
standing_in found.Beyond = Standing.Beyond

-- an answer
abbrev pub verdict_in : Answer → Verdict
verdict_in answer.Pass = Verdict.Passes
verdict_in answer.Open = Verdict.Opens
verdict_in answer.Discard = Verdict.Fails Fault.Discarded
verdict_in (answer.Stream code) = Verdict.Fails (Fault.Stream code)
verdict_in (answer.Connection code) = Verdict.Fails (Fault.Connection code)

-- the highest id of these streams, or 0
abbrev pub highest_in : List OpenedStream → ℕ
highest_in streams = fold max 0 (map (λ stream. stream.id) streams)

-- A stream with this id may be opened: it is above all that were, and these aren't all that are opened on a connection.
pub record IsOpenable (id : ℕ) (streams : List OpenedStream) : Type 0 where
  pub above : IsTrue (is_above id streams)
  pub few : length streams < most_streams

-- Where the answer is that a frame opens its stream, or that it is refused though it would, the stream may be opened.
abbrev pub AllowsOpening : Answer → ℕ → List OpenedStream → Type 0
AllowsOpening answer.Open id streams = IsOpenable id streams
AllowsOpening (answer.Stream code) id streams = code ≡ refused_stream → IsOpenable id streams
AllowsOpening _ id streams = Unit {0}
