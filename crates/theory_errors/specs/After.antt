-- The summary behind an entry, from the one before it: so a program keeps it. A field for each search of the model's.
use Rattle.std.specs.Prelude.{ℕ, suc, ◌+◌, ◌-◌, Bool, true, false, not, ◌&&◌, ◌||◌, ◌==◌, if◌then◌else◌, List, [], ◌∷◌}
use Rattle.std.specs.Prelude.{length, Option, None, is_none, ℤ, pos, ◌+ℤ◌, ◌-ℤ◌}
use Rattle.std.specs.List.{list_any}
use Rattle.model.specs.Frames.{Frame, rst_stream_kind, window_update_kind, ends_headers, spell}
use Rattle.model.specs.Setup.{Setup}
use Rattle.model.specs.Logs.Event.{ClientEnd, ClientTook}
use Rattle.model.specs.Logs.Act.{Open, CloseClient, ToUp}
use Rattle.model.specs.Tapes.{Entry}
use Rattle.model.specs.Tapes.Entry.{Came, Breached, Happened, Sent, Did}
use Rattle.model.specs.Decoding.{Partial, joined}
use Rattle.model.specs.Streams.{frame_items}
use Rattle.model.specs.SettingValues.{settings_in, settings_fault, initial_window_after}
use Rattle.model.specs.Errors.{Fault, first_of}
use Rattle.model.specs.Openings.{Opened, given, route_of, begins_another}
use Rattle.model.specs.Lifetimes.{ends_by}
use Rattle.model.specs.WindowsOnTape.{has_settings, increment, data_length, is_on, is_any}
use Rattle.model.specs.Courses.{is_final}
use Rattle.model.specs.ErrorClause.{is_fatal, is_calming}
use Rattle.theory_errors.specs.Summary.{Stream as Kept, Summary}
use Rattle.theory_errors.specs.Judging.{resets_active_in, shifts_past_in, completed_in, continuations_in, frame_rows_in, fault_for}
use Rattle.theory_errors.specs.Owing.{drained_after, fault_in, outline_from, opened_after}

-- ---- the connection

-- whether a frame came
abbrev pub has_come_after : Bool → Entry → Bool
has_come_after before (Came noted) = true
has_come_after before _ = before

-- the header block that isn't complete behind a frame
abbrev pub begun_after : Option Partial → Frame → Option Partial
begun_after before frame = if ends_headers frame then None else joined before frame

-- the client's header block that isn't complete
abbrev pub block_after : Option Partial → Entry → Option Partial
block_after before (Came noted) = begun_after before noted.frame
block_after before _ = before

-- how many CONTINUATION frames the last ones are
abbrev pub continuations_after : ℕ → Entry → ℕ
continuations_after before (Came noted) = continuations_in before noted.frame
continuations_after before _ = before

-- the header block to the client that isn't complete
abbrev pub block_out_after : Option Partial → Entry → Option Partial
block_out_after before (Sent noted) = begun_after before noted.frame
block_out_after before _ = before

-- nothing is wrong with the frame itself
abbrev pub is_sound : Summary → Frame → Bool
is_sound s frame = is_none (first_of (frame_rows_in s frame))

-- settings that are taken
abbrev pub are_taken_in : Summary → Frame → Bool
are_taken_in s frame =
    has_settings frame && is_none (settings_fault frame.payload) && not (shifts_past_in (initial_window_after s.first_size (settings_in frame.payload)) s)

-- the first size of streams' windows: changed by settings that are taken
abbrev pub first_size_after : Summary → Entry → ℕ
first_size_after s (Came noted) =
    if is_sound s noted.frame && are_taken_in s noted.frame
    then initial_window_after s.first_size (settings_in noted.frame.payload)
    else s.first_size
first_size_after s _ = s.first_size

-- the octets that a frame grants an id
abbrev pub grant : ℕ → Frame → ℕ
grant id frame = if frame.kind == window_update_kind && frame.id == id then increment frame else 0

-- what sound frames of the client grant, and what DATA takes
abbrev pub window_after : ℤ → (ℕ → Bool) → ℕ → Summary → Entry → ℤ
window_after before test id s (Came noted) =
    if is_sound s noted.frame then before +ℤ pos (grant id noted.frame) else before
window_after before test id s (Sent noted) = before -ℤ pos (data_length test noted.frame)
window_after before test id s _ = before

-- what is given back, and what DATA of the client takes
abbrev pub room_after : ℤ → (ℕ → Bool) → ℕ → Entry → ℤ
room_after before test id (Came noted) = before -ℤ pos (data_length test noted.frame)
room_after before test id (Sent noted) = before +ℤ pos (grant id noted.frame)
room_after before test id _ = before

-- the upstream connections that were given to streams
abbrev pub given_after : List Opened → ℕ → Entry → List Opened
given_after before last (Did (Open k route)) = record { k = k; route = route; stream = last } ∷ before
given_after before last (Did (ToUp k octets)) = if begins_another (given k before) last octets then record {
  k = k;
  route = route_of k before;
  stream = last;
} ∷ before else before
given_after before last _ = before

-- the stream of the last frame of the client
abbrev pub last_after : ℕ → Entry → ℕ
last_after before (Came noted) = noted.frame.id
last_after before _ = before

-- whether the last that came in calls for the end, or a GOAWAY in place of another frame
abbrev pub ends_after : Summary → Entry → Bool
ends_after s (Came noted) = is_fatal (fault_in s (Came noted))
ends_after s (Breached breach) = true
ends_after s (Happened ClientEnd) = true
ends_after s (Happened event) = false
ends_after s (Sent noted) = is_calming noted.frame || s.ends
ends_after s (Did act) = s.ends

-- how many active streams the client reset
abbrev pub resets_after : Summary → Entry → ℕ
resets_after s (Came noted) = if resets_active_in s noted.frame then suc s.resets else s.resets
resets_after s _ = s.resets

-- whether the client is closed
abbrev pub closed_after : Bool → Entry → Bool
closed_after before (Did CloseClient) = true
closed_after before _ = before

-- the octets for the client that its side hasn't taken
abbrev pub untaken_after : ℕ → Entry → ℕ
untaken_after before (Sent noted) = before + length (spell noted.frame)
untaken_after before (Happened (ClientTook count)) = before - count
untaken_after before _ = before

-- ---- a stream, of which this is kept

-- whether the client ended the stream
abbrev pub ended_by_client_after : ℕ → Summary → Entry → Bool → Bool
ended_by_client_after id s (Came noted) before =
    noted.frame.id == id && ends_by (completed_in s.block noted.frame) noted.frame || before
ended_by_client_after id s _ before = before

-- whether the gateway ended it
abbrev pub ended_by_gateway_after : ℕ → Summary → Entry → Bool → Bool
ended_by_gateway_after id s (Sent noted) before =
    noted.frame.id == id && ends_by (completed_in s.block_out noted.frame) noted.frame || before
ended_by_gateway_after id s _ before = before

-- the frame resets the stream
abbrev pub resets_it : ℕ → Frame → Bool
resets_it id frame = frame.kind == rst_stream_kind && frame.id == id

-- whether the client reset it
abbrev pub reset_by_client_after : ℕ → Entry → Bool → Bool
reset_by_client_after id (Came noted) before = resets_it id noted.frame || before
reset_by_client_after id _ before = before

-- whether the gateway reset it
abbrev pub reset_by_gateway_after : ℕ → Entry → Bool → Bool
reset_by_gateway_after id (Sent noted) before = resets_it id noted.frame || before
reset_by_gateway_after id _ before = before

-- whether the final head of a response is out
abbrev pub head_out_after : ℕ → Summary → Entry → Bool → Bool
head_out_after id s (Sent noted) before =
    before || list_any is_final (if noted.frame.id == id then frame_items (completed_in s.block_out noted.frame) noted else [])
head_out_after id s _ before = before

-- what is kept of a stream behind an entry with this fault, from what was kept
abbrev pub stream_from : Setup → Bool → Summary → Entry → ℕ → Kept → Option Fault → Kept
stream_from setup fails s e id kept found = record {
  ended_by_client = ended_by_client_after id s e kept.ended_by_client;
  ended_by_gateway = ended_by_gateway_after id s e kept.ended_by_gateway;
  reset_by_client = reset_by_client_after id e kept.reset_by_client;
  reset_by_gateway = reset_by_gateway_after id e kept.reset_by_gateway;
  balance = window_after kept.balance (is_on id) id s e;
  room = room_after kept.room (is_on id) id e;
  head_out = head_out_after id s e kept.head_out;
  outline = outline_from setup fails id s e kept found;
}

-- what is kept of a stream behind an entry, from what was kept of it
abbrev pub kept_behind : Setup → Bool → Summary → Entry → ℕ → Kept → Kept
kept_behind setup fails s e id kept = stream_from setup fails s e id kept (fault_for kept.outline s e)

-- ---- all of it

-- the summary behind an entry
abbrev pub after : Setup → Bool → Summary → Entry → Summary
after setup fails s e = record {
  has_come = has_come_after s.has_come e;
  block = block_after s.block e;
  continuations = continuations_after s.continuations e;
  block_out = block_out_after s.block_out e;
  first_size = first_size_after s e;
  own = s.own;
  window = window_after s.window is_any 0 s e;
  room = room_after s.room is_any 0 e;
  drained = drained_after s.drained e;
  opened = opened_after s e;
  stream = λ id. kept_behind setup fails s e id (s.stream id);
  resets = resets_after s e;
  given = given_after s.given s.last e;
  last = last_after s.last e;
  ends = ends_after s e;
  closed = closed_after s.closed e;
  untaken = untaken_after s.untaken e;
}
