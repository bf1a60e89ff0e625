-- The states of streams (RFC 9113, section 5.1), and what comes of a frame on a stream by the state that it is in.
use Rattle.std.specs.Prelude.{ℕ, ◌%◌, Bool, true, false, ◌&&◌, ◌||◌, ◌==◌, nat_lt, if◌then◌else◌, List, [], ◌∷◌, map, length, Option, Some, None}
use Rattle.std.specs.List.{list_all, count_by}
use Rattle.model.specs.Limits.{most_streams, most_active}
use Rattle.model.specs.Frames.{data_kind, headers_kind, protocol_error, stream_closed, refused_stream}
use Rattle.model.specs.Errors.{Fault}
use Rattle.model.specs.Errors.Fault.{Connection, Stream, Discarded}

-- The state of a stream that was opened (section 5.1); a closed one is told apart by what closed it.
pub data StreamState : Type 0 where
  -- neither side has ended it
  Open : StreamState
  -- the client alone has ended it
  HalfClosedRemote : StreamState
  -- the gateway alone has ended it
  HalfClosedLocal : StreamState
  -- both sides have ended it
  Closed : StreamState
  -- the client reset it
  ResetByPeer : StreamState
  -- the gateway reset it
  ResetByUs : StreamState

-- What changes the state of a stream that isn't closed (section 5.1).
pub data Change : Type 0 where
  -- END_STREAM comes
  RemoteEnds : Change
  -- END_STREAM is sent
  LocalEnds : Change
  -- RST_STREAM comes
  PeerResets : Change
  -- RST_STREAM is sent
  WeReset : Change

-- neither is it reset, nor have both sides ended it
abbrev pub is_active : StreamState → Bool
is_active Open = true
is_active HalfClosedRemote = true
is_active HalfClosedLocal = true
is_active _ = false

-- the state when a side has ended an active stream (section 5.1)
abbrev pub after_end : Change → StreamState → StreamState
after_end RemoteEnds Open = HalfClosedRemote
after_end RemoteEnds HalfClosedLocal = Closed
after_end LocalEnds Open = HalfClosedLocal
after_end LocalEnds HalfClosedRemote = Closed
after_end change state = state

-- the state behind a change: a closed stream stays as it is, and so does a side that has ended (section 5.1)
abbrev pub after : Change → StreamState → StreamState
after PeerResets state = if is_active state then ResetByPeer else state
after WeReset state = if is_active state then ResetByUs else state
after change state = after_end change state

-- A stream that was opened: its id, and its state now.
pub record OpenedStream : Type 0 where
  pub id : ℕ
  pub state : StreamState

-- how many streams are active
abbrev pub active_count : List OpenedStream → ℕ
active_count streams = count_by (λ stream. is_active stream.state) streams

-- the state of the stream with this id, if it was opened
abbrev pub state_of : ℕ → List OpenedStream → Option StreamState
state_of id [] = None
state_of id (stream ∷ streams) = if stream.id == id then Some stream.state else state_of id streams

-- the stream changes if it has this id
abbrev pub with_change : Change → ℕ → OpenedStream → OpenedStream
with_change change id stream = if stream.id == id then record stream { state = after change stream.state } else stream

-- the streams where the one with this id has changed, and all others are as they were
abbrev pub changed : Change → ℕ → List OpenedStream → List OpenedStream
changed change id streams = map (with_change change id) streams

-- the id is above every opened one
abbrev pub is_above : ℕ → List OpenedStream → Bool
is_above id streams = list_all (λ stream. nat_lt stream.id id) streams

-- How an id stands to the streams of a connection.
pub data Standing : Type 0 where
  -- no stream has it: it is 0, that of the whole connection (section 5.1.1)
  WholeConnection : Standing
  -- its stream was opened, and is in this state
  Opened : (state : StreamState) → Standing
  -- it is odd, and the client may open it yet (section 5.1.1)
  Idle : Standing
  -- a server alone might open it, since it is even; none is ever opened here, so it stays idle (section 5.1.1)
  ServerIdle : Standing
  -- it is odd and wasn't opened before one above it was, and so it is closed (section 5.1.1)
  Skipped : Standing
  -- it is above the last id that a GOAWAY with NO_ERROR named (section 6.8)
  Beyond : Standing

-- the standing of an id that wasn't opened: whether it is above every opened one, and whether none may be opened any more
abbrev pub unopened : Bool → Bool → ℕ → Standing
unopened above full id =
    if above && full then Beyond else (if id % 2 == 0 then ServerIdle else (if above then Idle else Skipped))

-- the standing of an id by the state of its stream, or else this one
abbrev pub opened_or : Option StreamState → Standing → Standing
opened_or (Some state) otherwise = Opened state
opened_or None otherwise = otherwise

-- how an id stands to the streams that were opened so far; where the connection is drained, no other is opened
abbrev pub standing : Bool → List OpenedStream → ℕ → Standing
standing drained streams id =
    if id == 0
    then WholeConnection
    else opened_or (state_of id streams) (unopened (is_above id streams) (drained || length streams == most_streams) id)

-- What comes of a frame by the standing of its id.
pub data Verdict : Type 0 where
  -- the state allows it
  Passes : Verdict
  -- it opens the stream
  Opens : Verdict
  -- the state is against it
  Fails : (fault : Fault) → Verdict

-- the frame is DATA or HEADERS, which only a side that hasn't ended the stream may send
abbrev pub is_content : ℕ → Bool
is_content kind = kind == data_kind || kind == headers_kind

-- on a stream that was opened (section 5.1): what comes behind our reset is discarded; on one that is closed otherwise
-- DATA and HEADERS end the connection and anything else is discarded; DATA and HEADERS behind the client's end are an
-- error of the stream
abbrev pub opened_verdict : StreamState → ℕ → Verdict
opened_verdict Open kind = Passes
opened_verdict HalfClosedLocal kind = Passes
opened_verdict HalfClosedRemote kind = if is_content kind then Fails (Stream stream_closed) else Passes
opened_verdict ResetByUs kind = Fails Discarded
opened_verdict Closed kind = if is_content kind then Fails (Connection stream_closed) else Fails Discarded
opened_verdict ResetByPeer kind = if is_content kind then Fails (Connection stream_closed) else Fails Discarded

-- HEADERS open an idle stream, unless 100 are active (section 5.1.2); anything else on it is an error (section 5.1)
abbrev pub idle_verdict : ℕ → ℕ → Verdict
idle_verdict active kind =
    if kind == headers_kind
    then (if nat_lt active most_active then Opens else Fails (Stream refused_stream))
    else Fails (Connection protocol_error)

-- on a skipped stream HEADERS use an id that doesn't rise (section 5.1.1), and DATA comes on a closed stream (section 5.1)
abbrev pub skipped_verdict : ℕ → Verdict
skipped_verdict kind =
    if kind == headers_kind
    then Fails (Connection protocol_error)
    else (if kind == data_kind then Fails (Connection stream_closed) else Fails Discarded)

-- what comes of DATA, HEADERS, RST_STREAM or WINDOW_UPDATE, where so many streams are active; HEADERS belong to a stream
-- that a client may open (sections 5.1.1 and 6.2), and what is above the last id of a GOAWAY is discarded (section 6.8)
abbrev pub verdict : ℕ → Standing → ℕ → Verdict
verdict active WholeConnection kind = if kind == headers_kind then Fails (Connection protocol_error) else Passes
verdict active (Opened state) kind = opened_verdict state kind
verdict active Idle kind = idle_verdict active kind
verdict active ServerIdle kind = Fails (Connection protocol_error)
verdict active Skipped kind = skipped_verdict kind
verdict active Beyond kind = Fails Discarded
