-- Which streams were opened on a tape, which side ended each or reset it, and which are active (RFC 9113, section 5.1).
use Rattle.std.specs.Prelude.{ℕ, suc, ◌%◌, max, Bool, true, false, not, ◌&&◌, ◌||◌, ◌==◌, nat_lt, if◌then◌else◌, List}
use Rattle.std.specs.Prelude.{[], ◌∷◌, map, filter, length, Option, Some, None, fold}
use Rattle.std.specs.List.{list_all, list_any}
use Rattle.model.specs.Frames.{Frame, data_kind, rst_stream_kind, ends_stream}
use Rattle.model.specs.Tapes.{Note, Noted, Entry, came, sent}
use Rattle.model.specs.Tapes.Note.{Fields}
use Rattle.model.specs.Tapes.Entry.{Came, Happened, Sent}
use Rattle.model.specs.Logs.{Event}
use Rattle.model.specs.Logs.Event.{Drain}
use Rattle.model.specs.Decoding.{Partial, completed}
use Rattle.model.specs.StreamStates.{StreamState, OpenedStream, Standing, standing}
use Rattle.model.specs.Limits.{most_streams}
use Rattle.model.specs.StreamStates.StreamState.{Open, HalfClosedRemote, HalfClosedLocal, Closed, ResetByPeer, ResetByUs}

-- ---- the end that the operator asks for

abbrev pub is_drain : Event → Bool
is_drain Drain = true
is_drain _ = false

-- The operator wants the connection to end. From there on no stream is opened, as where all were that may be (section 6.8).
abbrev pub is_drained : List Entry → Bool
is_drained [] = false
is_drained (Happened event ∷ t) = is_drain event || is_drained t
is_drained (_ ∷ t) = is_drained t

-- ---- opened

-- A client's stream has an odd id, above those of all streams before it (section 5.1.1); of them there are fewer than 10,000,
-- and none is opened where the connection is drained.
abbrev pub may_open : Bool → List ℕ → ℕ → Bool
may_open drained opened id =
    id % 2 == 1 && list_all (λ other. nat_lt other id) opened && (not drained && nat_lt (length opened) most_streams)

-- A stream is opened by its first header block, once that is whole and decoded, even if the stream is refused then.
abbrev pub opens_by : Bool → List ℕ → Option Partial → Note → Bool
opens_by drained opened (Some block) (Fields fields) = may_open drained opened block.id
opens_by drained opened _ _ = false

-- the streams that were opened, the newest first
abbrev pub opened : List Entry → List ℕ
opened [] = []
opened (Came noted ∷ t) =
    let before = opened t in
    if opens_by (is_drained t) before (completed (came t) noted.frame) noted.note then noted.frame.id ∷ before else before
opened (_ ∷ t) = opened t

-- the highest of them, or 0
abbrev pub highest : List Entry → ℕ
highest t = fold max 0 (opened t)

-- no stream may be opened any more: all were that a connection may have, or it is drained
abbrev pub is_full : List Entry → Bool
is_full t = is_drained t || length (opened t) == most_streams

-- behind the entry none may be, and before it one might: it opens the last stream that a connection may have, or the operator asks for the end
abbrev pub opens_last : List Entry → Entry → Bool
opens_last t e = not (is_drained t) && nat_lt (length (opened t)) most_streams && is_full (e ∷ t)

abbrev pub is_opened : ℕ → List Entry → Bool
is_opened stream t = list_any (λ id. id == stream) (opened t)

-- ---- ended, reset

-- The frame ends its stream (section 5.1): DATA with END_STREAM, or the last frame of a header block whose HEADERS has it.
abbrev pub ends_by : Option Partial → Frame → Bool
ends_by (Some block) frame = block.ends
ends_by None frame = frame.kind == data_kind && ends_stream frame

abbrev pub is_ended_by_client : ℕ → List Entry → Bool
is_ended_by_client stream [] = false
is_ended_by_client stream (Came noted ∷ t) =
    noted.frame.id == stream && ends_by (completed (came t) noted.frame) noted.frame || is_ended_by_client stream t
is_ended_by_client stream (_ ∷ t) = is_ended_by_client stream t

abbrev pub is_ended_by_gateway : ℕ → List Entry → Bool
is_ended_by_gateway stream [] = false
is_ended_by_gateway stream (Sent noted ∷ t) =
    noted.frame.id == stream && ends_by (completed (sent t) noted.frame) noted.frame || is_ended_by_gateway stream t
is_ended_by_gateway stream (_ ∷ t) = is_ended_by_gateway stream t

-- a frame of these resets the stream (section 6.4)
abbrev pub has_reset : ℕ → List Noted → Bool
has_reset stream frames = list_any (λ noted. noted.frame.kind == rst_stream_kind && noted.frame.id == stream) frames

abbrev pub is_reset_by_client : ℕ → List Entry → Bool
is_reset_by_client stream t = has_reset stream (came t)

abbrev pub is_reset_by_gateway : ℕ → List Entry → Bool
is_reset_by_gateway stream t = has_reset stream (sent t)

-- ---- the state of a stream

-- the state by who ended the stream: the client, the gateway
abbrev pub state_by_ends : Bool → Bool → StreamState
state_by_ends false false = Open
state_by_ends true false = HalfClosedRemote
state_by_ends false true = HalfClosedLocal
state_by_ends true true = Closed

-- The state of a stream that was opened. The gateway resets active streams alone, so its reset tells the state wherever it
-- stands; what the client sends behind that is discarded.
abbrev pub state_on : List Entry → ℕ → StreamState
state_on t stream =
    if is_reset_by_gateway stream t
    then ResetByUs
    else (if is_reset_by_client stream t then ResetByPeer else state_by_ends (is_ended_by_client stream t) (is_ended_by_gateway stream t))

-- the streams that were opened, each with its state now
abbrev pub streams : List Entry → List OpenedStream
streams t = map (λ id. record { id = id; state = state_on t id }) (opened t)

-- how an id stands to them
abbrev pub standing_on : List Entry → ℕ → Standing
standing_on t id = standing (is_drained t) (streams t) id

-- A stream is active from its opening until both sides have ended it or one has reset it.
abbrev pub is_over : ℕ → List Entry → Bool
is_over stream t =
    is_reset_by_gateway stream t || is_reset_by_client stream t || is_ended_by_client stream t && is_ended_by_gateway stream t

abbrev pub is_active : ℕ → List Entry → Bool
is_active stream t = is_opened stream t && not (is_over stream t)

abbrev pub active : List Entry → List ℕ
active t = filter (λ id. not (is_over id t)) (opened t)

-- the frame resets a stream that is active
abbrev pub resets_active : List Entry → Frame → Bool
resets_active t frame = frame.kind == rst_stream_kind && is_active frame.id t

-- how many frames of the client did
abbrev pub resets_by_client : List Entry → ℕ
resets_by_client [] = 0
resets_by_client (Came noted ∷ t) = if resets_active t noted.frame then suc (resets_by_client t) else resets_by_client t
resets_by_client (_ ∷ t) = resets_by_client t

-- No stream may be opened, and none is active any more.
abbrev pub is_exhausted : List Entry → Bool
is_exhausted t = is_full t && length (active t) == 0
