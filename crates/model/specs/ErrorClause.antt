-- The clause on errors: which frames the gateway sends beside its responses and the octets that it gives back, and when it ends
-- the connection (RFC 9113, sections 3.4, 5.4, 6.4, 6.5, 6.7 and 6.8). What is owed is read off the tape, and what was sent is
-- just that: always there, in its order, and nothing else.
use Rattle.std.specs.Prelude.{◌≡◌, ℕ, Bool, true, false, not, ◌&&◌, ◌||◌, ◌==◌, ◌⊎◌, nat_lt, if◌then◌else◌, List, []}
use Rattle.std.specs.Prelude.{◌∷◌, ◌++◌, length, drop, bytes_eq, map, filter, reverse, Option, Some, None}
use Rattle.std.specs.List.{list_any}
use Rattle.model.specs.Octets.{is_empty}
use Rattle.model.specs.Frames.{Frame, data_kind, headers_kind, rst_stream_kind, ping_kind, goaway_kind}
use Rattle.model.specs.Frames.{window_update_kind, continuation_kind, is_ack, ends_stream, ends_headers, spell_number}
use Rattle.model.specs.Frames.{settings_frame, settings_ack, goaway, no_error, enhance_your_calm}
use Rattle.model.specs.Payloads.{number_field}
use Rattle.model.specs.Logs.Event.{ClientEnd}
use Rattle.model.specs.Tapes.{Noted, Entry, sent, is_closed}
use Rattle.model.specs.Tapes.Entry.{Came, Breached, Happened, Sent, Did}
use Rattle.model.specs.Admission.{untaken, is_crowded}
use Rattle.model.specs.Limits.{high_water}
use Rattle.model.specs.Decoding.{completed}
use Rattle.model.specs.Errors.{Fault}
use Rattle.model.specs.Errors.Fault.{Connection, Stream}
use Rattle.model.specs.Known.{Known}
use Rattle.model.specs.Lifetimes.{highest, opens_last, ends_by, is_ended_by_client, is_ended_by_gateway, is_active, is_exhausted}
use Rattle.model.specs.WindowsOnTape.{has_settings, increment}
use Rattle.model.specs.Causes.{Cause, reset_code}
use Rattle.model.specs.Courses.{course, about, fault}

-- ---- what is owed

-- the reset of a stream (section 6.4), and the answer to a PING (section 6.7)
abbrev pub rst_stream : ℕ → ℕ → Frame
rst_stream stream code = record { kind = rst_stream_kind; flags = 0; id = stream; payload = spell_number code }

abbrev pub ping_ack : List ℕ → Frame
ping_ack octets = record { kind = ping_kind; flags = 1; id = 0; payload = octets }

-- the GOAWAY that an entry calls for behind which no stream may be opened, where one might before: it opens the last that a connection may have,
-- or is the operator's wish for the end
abbrev pub last_goaway : List Entry → Entry → List Frame
last_goaway t e =
    if opens_last t e
    then goaway (highest (e ∷ t)) no_error ∷ []
    else []

-- The code of the GOAWAY of an error: where too many octets are untaken it asks the client to be calm, whatever the error is.
abbrev pub code_of_goaway : List Entry → ℕ → ℕ
code_of_goaway t code = if is_crowded t then enhance_your_calm else code

-- What an entry calls for before all else: that GOAWAY, and by its fault the reset of its stream, or the GOAWAY with the
-- highest stream that was opened, with the entry.
abbrev pub owed_first : List Entry → Entry → Option Fault → List Frame
owed_first t e (Some (Connection code)) = goaway (highest (e ∷ t)) (code_of_goaway t code) ∷ []
owed_first t e (Some (Stream code)) = last_goaway t e ++ rst_stream (about t e) code ∷ []
owed_first t e _ = last_goaway t e

-- the acknowledgement of settings, and the answer to a PING, that are no error
abbrev pub acks : Entry → Option Fault → List Frame
acks (Came noted) None =
    if has_settings noted.frame
    then settings_ack ∷ []
    else (if noted.frame.kind == ping_kind && not (is_ack noted.frame) then ping_ack noted.frame.payload ∷ [] else [])
acks e _ = []

-- the reset of a stream by a cause of a reply of the gateway's own, where a response's final head is out
abbrev pub reset_with : ℕ → Option ℕ → List Frame
reset_with stream None = []
reset_with stream (Some code) = rst_stream stream code ∷ []

abbrev pub reset_for : ℕ → Bool → Option Cause → Option Cause → List Frame
reset_for stream true None (Some cause) = reset_with stream (reset_code cause)
reset_for stream _ _ _ = []

abbrev pub resets : Known → ℕ → List Entry → Entry → List Frame
resets known stream t e =
    let now = course known stream (e ∷ t) in reset_for stream now.head_out (course known stream t).cause now.cause

-- the reset behind a response that ends before its request
abbrev pub reset_behind : List Entry → Entry → List Frame
reset_behind t (Sent noted) =
    if ends_by (completed (sent t) noted.frame) noted.frame && not (is_ended_by_client noted.frame.id t)
    then rst_stream noted.frame.id no_error ∷ []
    else []
reset_behind t _ = []

-- What an entry calls for, the oldest first. Some rows of `ErrorExamples`, where all are worked by
-- computation alone. On the tape `begun` no stream is opened; on `got` a whole GET stands on stream 1.
--   begun, a PING with 1 to 8         ping_ack (1 to 8)
--   begun, SETTINGS                   settings_ack
--   begun, WINDOW_UPDATE by 0 on 0    goaway 0 protocol_error
--   got, DATA on   stream 1           rst_stream 1 stream_closed
--   got, DATA on   stream 3           goaway 1 protocol_error
--   begun, a head with the name `X`   rst_stream 1 protocol_error
--   begun, a head with the name `x`   nothing
abbrev pub owed_by : Known → List Entry → Entry → List Frame
owed_by known t e =
    let found = fault known t e in owed_first t e found ++ (acks e found ++ (resets known (about t e) t e ++ reset_behind t e))

-- ---- what calls for the end of the connection

abbrev pub is_fatal : Option Fault → Bool
is_fatal (Some (Connection code)) = true
is_fatal _ = false

-- a GOAWAY that asks the client to be calm (section 7)
abbrev pub is_calming : Frame → Bool
is_calming frame = frame.kind == goaway_kind && bytes_eq (drop 4 frame.payload) (spell_number enhance_your_calm)

-- The last that came in calls for the end: the client has gone, or an error of the connection. Or the gateway sent such a GOAWAY in place of
-- another frame.
abbrev pub calls_for_end : Known → List Entry → Bool
calls_for_end known [] = false
calls_for_end known (Came noted ∷ t) = is_fatal (fault known t (Came noted))
calls_for_end known (Breached breach ∷ t) = true
calls_for_end known (Happened ClientEnd ∷ t) = true
calls_for_end known (Happened event ∷ t) = false
calls_for_end known (Sent noted ∷ t) = is_calming noted.frame || calls_for_end known t
calls_for_end known (Did act ∷ t) = calls_for_end known t

-- ---- what was sent

-- a part of a response, or octets given back
abbrev pub is_passing : Noted → Bool
is_passing noted =
    noted.frame.kind == data_kind || noted.frame.kind == headers_kind || noted.frame.kind == continuation_kind || noted.frame.kind == window_update_kind

-- all other frames, the newest first
abbrev pub controls : List Noted → List Frame
controls frames = map (λ noted. noted.frame) (filter (λ noted. not (is_passing noted)) frames)

-- A GOAWAY that asks the client to be calm stands in place of another frame: nothing before it calls for the end.
abbrev pub stands_in : Known → List Entry → Noted → Bool
stands_in known t noted = is_calming noted.frame && not (calls_for_end known t)

-- What all entries call for, the newest first: the gateway's settings come before anything else. Behind a GOAWAY that stands in place of another
-- frame nothing is called for any more but what was sent.
abbrev pub owed : Known → List Entry → List Frame
owed known [] = settings_frame known.setup.more_room ∷ []
owed known (Came noted ∷ t) = reverse (owed_by known t (Came noted)) ++ owed known t
owed known (Breached breach ∷ t) = reverse (owed_by known t (Breached breach)) ++ owed known t
owed known (Happened event ∷ t) = reverse (owed_by known t (Happened event)) ++ owed known t
owed known (Sent noted ∷ t) =
    if stands_in known t noted then noted.frame ∷ controls (sent t) else reverse (owed_by known t (Sent noted)) ++ owed known t
owed known (Did act ∷ t) = reverse (owed_by known t (Did act)) ++ owed known t

-- A GOAWAY that asks the client to be calm stands in place of what an entry calls for before all else, or of the rest of that; it is the last frame.
pub record IsCutShort (frames first : List Frame) : Type 0 where
  pub last : Frame
  pub calming : is_calming last ≡ true
  pub paid : List Frame
  pub unpaid : List Frame
  pub stands : frames ≡ last ∷ reverse paid
  pub of_first : first ≡ paid ++ unpaid

-- Of the frames that were sent behind an entry, which stand with the newest first, the oldest are those that it calls for
-- before all else. Behind an error of the connection they are all.
abbrev pub IsFollowed : List Frame → List Frame → Option Fault → Type 0
IsFollowed frames first (Some (Connection code)) = frames ≡ first
IsFollowed frames first _ = ((newer : List Frame) × (frames ≡ newer ++ reverse first)) ⊎ IsCutShort frames first

-- Each entry of the tape is followed so, where these frames were sent behind the tape.
abbrev pub AreFollowed : Known → List Frame → List Entry → Type 0
AreFollowed known frames [] = Unit {0}
AreFollowed known frames (Sent noted ∷ t) = AreFollowed known (frames ++ noted.frame ∷ []) t
AreFollowed known frames (e ∷ t) =
    IsFollowed frames (owed_first t e (fault known t e)) (fault known t e) × AreFollowed known frames t

-- the last GOAWAY that the newest entry calls for
abbrev pub newest_goaway : List Entry → List Frame
newest_goaway [] = []
newest_goaway (e ∷ t) = last_goaway t e

-- No act stands right behind the entry that calls for that GOAWAY. So the GOAWAY does, before all that the head of the last stream causes
-- (section 6.8).
abbrev pub GoawaysComeFirst : List Entry → Type 0
GoawaysComeFirst [] = Unit {0}
GoawaysComeFirst (Did act ∷ t) = (newest_goaway t ≡ []) × GoawaysComeFirst t
GoawaysComeFirst (_ ∷ t) = GoawaysComeFirst t

-- The flags that a type is sent with: END_STREAM and END_HEADERS where it has them, and no other. The gateway pads nothing and
-- gives no priority (sections 6.1, 6.2, 6.9 and 6.10).
abbrev pub flags_of : ℕ → List ℕ
flags_of kind =
    if kind == data_kind
    then 0 ∷ 1 ∷ []
    else (if kind == headers_kind then 0 ∷ 1 ∷ 4 ∷ 5 ∷ [] else (if kind == continuation_kind then 0 ∷ 4 ∷ [] else 0 ∷ []))

abbrev pub is_plainly_flagged : Frame → Bool
is_plainly_flagged frame = list_any (λ flags. flags == frame.flags) (flags_of frame.kind)

-- octets are given back, one or more, with the reserved bit unset (section 6.9), to the connection, or to an active stream that the
-- client hasn't ended (section 5.1), while not too many octets are untaken
abbrev pub is_given_back : List Entry → Frame → Bool
is_given_back t frame =
    length frame.payload == 4 && nat_lt (number_field frame.payload) 2147483648
    && nat_lt 0 (increment frame)
    && not (is_crowded t)
    && (frame.id == 0 || is_active frame.id t && not (is_ended_by_client frame.id t))

-- a header block goes on in another frame only where this one is full (section 6.10)
abbrev pub is_filled : Frame → Bool
is_filled frame = frame.kind == data_kind || (ends_headers frame || length frame.payload == 16384)

-- A part of a response goes to an active stream that the gateway hasn't ended. It has octets, unless it is the stream's end alone; it
-- is begun while fewer octets than the high water are untaken; and it is a whole header block where that fits one frame.
abbrev pub is_part : List Entry → Frame → Bool
is_part t frame =
    is_active frame.id t && not (is_ended_by_gateway frame.id t) && (not (is_empty frame.payload) || frame.kind == data_kind && ends_stream frame)
    && (frame.kind == continuation_kind || nat_lt (untaken t) high_water) && is_filled frame

abbrev pub is_rightly_sent : List Entry → Frame → Bool
is_rightly_sent t frame =
    is_plainly_flagged frame && (if frame.kind == window_update_kind then is_given_back t frame else is_part t frame)

abbrev pub AreRightlySent : List Entry → Type 0
AreRightlySent [] = Unit {0}
AreRightlySent (Sent noted ∷ t) = ((not (is_passing noted) || is_rightly_sent t noted.frame) ≡ true) × AreRightlySent t
AreRightlySent (_ ∷ t) = AreRightlySent t

-- ---- floods

-- The GOAWAY stands in place of a frame that would go out while too many octets are untaken, and names the highest stream that was opened.
pub record StandsInPlace (t : List Entry) (frame : Frame) : Type 0 where
  pub crowded : is_crowded t ≡ true
  pub goaway : frame ≡ goaway (highest t) enhance_your_calm

-- While too many octets are untaken nothing goes out but parts of responses (octets aren't given back then, see `is_given_back`) and a GOAWAY that
-- asks the client to be calm; and such a GOAWAY stands in place of another frame nowhere else.
pub record IsCalm (known : Known) (t : List Entry) (noted : Noted) : Type 0 where
  pub uncrowded : is_crowded t ≡ true → (is_passing noted || is_calming noted.frame) ≡ true
  pub in_place : stands_in known t noted ≡ true → StandsInPlace t noted.frame

abbrev pub AreCalm : Known → List Entry → Type 0
AreCalm known [] = Unit {0}
AreCalm known (Sent noted ∷ t) = IsCalm known t noted × AreCalm known t
AreCalm known (_ ∷ t) = AreCalm known t

-- ---- the end of the connection

-- The connection is to end: so, or since no stream is left, nor may one be opened.
abbrev pub must_end : Known → List Entry → Bool
must_end known t = calls_for_end known t || is_exhausted t

-- Nothing comes in where the connection is to end.
abbrev pub EndsInTime : Known → List Entry → Type 0
EndsInTime known [] = Unit {0}
EndsInTime known (Sent noted ∷ t) = EndsInTime known t
EndsInTime known (Did act ∷ t) = EndsInTime known t
EndsInTime known (e ∷ t) = (must_end known t ≡ false) × EndsInTime known t

-- The first frame is the gateway's settings. Beside parts of responses and octets given back, just what is owed was sent, and
-- what an entry calls for before all else came next; the GOAWAY behind which none is opened came before any act. The client is closed just
-- where the connection is to end.
pub record ErrorsHold (known : Known) (t : List Entry) : Type 0 where
  pub begins : (newer : List Frame) × (map (λ noted. noted.frame) (sent t) ≡ newer ++ settings_frame known.setup.more_room ∷ [])
  pub just_owed : controls (sent t) ≡ owed known t
  pub followed : AreFollowed known [] t
  pub goaway_first : GoawaysComeFirst t
  pub rightly_sent : AreRightlySent t
  pub calm : AreCalm known t
  pub closed : is_closed t ≡ must_end known t
  pub in_time : EndsInTime known t
