-- The clause on windows (RFC 9113, sections 5.2 and 6.9): DATA goes out within both windows, and octets that came are given back
-- once they are passed on.
use Rattle.std.specs.Prelude.{◌≡◌, ℕ, ◌+◌, ◌<◌, true, false, ◌==◌, nat_lt, if◌then◌else◌, List, [], ◌∷◌, length, ℤ, pos, ◌-ℤ◌, ◌≤ℤ◌, ◌<ℤ◌, ◌⊎◌, sum_by}
use Rattle.model.specs.Frames.{Frame, data_kind, window_update_kind}
use Rattle.model.specs.Logs.Event.{UpTook}
use Rattle.model.specs.Setup.{Passing, own_window}
use Rattle.model.specs.Setup.Passing.{Whole, Streaming}
use Rattle.model.specs.Tapes.{Entry, is_closed, sent_up}
use Rattle.model.specs.Tapes.Entry.{Came, Breached, Happened, Sent}
use Rattle.model.specs.Openings.{Opened, exchange_for}
use Rattle.model.specs.Known.{Known}
use Rattle.model.specs.Lifetimes.{active, is_active, is_ended_by_client}
use Rattle.model.specs.WindowsOnTape.{is_on, data_length, stream_window, connection_window, room_on, room_on_connection}

-- ---- sending

-- A frame of DATA that isn't empty is at most both windows; an empty one needs none (section 6.9.1).
pub record IsWithinWindows (t : List Entry) (frame : Frame) : Type 0 where
  pub own : pos (length frame.payload) ≤ℤ stream_window frame.id t
  pub shared : pos (length frame.payload) ≤ℤ connection_window t

abbrev pub KeepsWindows : List Entry → Type 0
KeepsWindows [] = Unit {0}
KeepsWindows (Sent noted ∷ t) =
    (noted.frame.kind ≡ data_kind → 0 < length noted.frame.payload → IsWithinWindows t noted.frame) × KeepsWindows t
KeepsWindows (_ ∷ t) = KeepsWindows t

-- ---- receiving

-- the octets that an upstream's side has taken
abbrev pub taken : ℕ → List Entry → ℕ
taken k [] = 0
taken k (Happened (UpTook j count) ∷ t) = if k == j then taken k t + count else taken k t
taken k (_ ∷ t) = taken k t

-- Those of an exchange's connection, and how many were put out for it: with those of the exchanges before, since its side takes all in
-- their order.
abbrev pub taken_of : Opened → List Entry → ℕ
taken_of o t = taken o.k t

abbrev pub put_out_on : Opened → List Entry → ℕ
put_out_on o t = length (sent_up o.k t)

-- The octets of DATA on an exchange's stream behind which more had been put out for its connection than these that are taken. `put_out` is
-- how many were put out until the next thing came in, so that what a frame itself causes is counted with it.
abbrev pub waiting : Opened → ℕ → List Entry → ℕ → ℕ
waiting o taken_now [] put_out = 0
waiting o taken_now (Came noted ∷ t) put_out =
    (if nat_lt taken_now put_out then data_length (is_on o.stream) noted.frame else 0) + waiting o taken_now t (put_out_on o t)
waiting o taken_now (Breached breach ∷ t) put_out = waiting o taken_now t (put_out_on o t)
waiting o taken_now (Happened event ∷ t) put_out = waiting o taken_now t (put_out_on o t)
waiting o taken_now (_ ∷ t) put_out = waiting o taken_now t put_out

abbrev pub waiting_for : Opened → List Entry → ℕ
waiting_for o t = waiting o (taken_of o t) t (put_out_on o t)

-- The octets of DATA that are kept for a stream: none where requests are passed on whole; else those of each frame, padding
-- included, behind which more was put out than its connection's side has taken.
abbrev pub kept : Passing → ℕ → List Entry → ℕ
kept Whole stream t = 0
kept Streaming stream t = waiting_for (exchange_for stream t) t

-- those kept for all active streams
abbrev pub kept_in_all : Passing → List Entry → ℕ
kept_in_all passing t = sum_by (λ stream. kept passing stream t) (active t)

-- Each receiving window is as at first, but for what is kept: that of the connection, and that of each active stream that the
-- client hasn't ended. So where windows begin with more than 65,535 octets, the connection's is made as large before anything comes in.
pub record GivesBack (known : Known) (t : List Entry) : Type 0 where
  pub shared : room_on_connection t ≡ pos (own_window known.setup) -ℤ pos (kept_in_all known.setup.passing t)
  pub own : (stream : ℕ) → is_active stream t ≡ true → is_ended_by_client stream t ≡ false
      → room_on (own_window known.setup) stream t ≡ pos (own_window known.setup) -ℤ pos (kept known.setup.passing stream t)

-- What is kept isn't given back, nor is it in the step in which its stream ends: no stream has more room than at first, less what is kept
-- for it.
abbrev pub HoldsBack : ℕ → Passing → List Entry → Type 0
HoldsBack own passing t = (stream : ℕ) → 0 < stream → room_on own stream t ≤ℤ (pos own -ℤ pos (kept passing stream t))

-- Octets go back: there is less room than at first, but for what is kept, on the connection, or on an active stream that the client hasn't ended.
abbrev pub GoesBack : ℕ → Passing → List Entry → Type 0
GoesBack own passing t =
    (room_on_connection t <ℤ (pos own -ℤ pos (kept_in_all passing t)))
    ⊎ ((stream : ℕ) × (is_active stream t ≡ true) × (is_ended_by_client stream t ≡ false)
    × (room_on own stream t <ℤ (pos own -ℤ pos (kept passing stream t))))

-- how many octets of DATA may come on an id; 0 is that of the connection
abbrev pub room_of : ℕ → ℕ → List Entry → ℤ
room_of own id t = if id == 0 then room_on_connection t else room_on own id t

-- Nothing is given back that didn't come: behind each WINDOW_UPDATE there is no more room than at first.
abbrev pub GivesNoMore : ℕ → List Entry → Type 0
GivesNoMore own [] = Unit {0}
GivesNoMore own (Sent noted ∷ t) =
    (noted.frame.kind ≡ window_update_kind → room_of own noted.frame.id (Sent noted ∷ t) ≤ℤ pos own) × GivesNoMore own t
GivesNoMore own (_ ∷ t) = GivesNoMore own t

pub record WindowsHold (known : Known) (t : List Entry) : Type 0 where
  pub keeps : KeepsWindows t
  pub no_more : GivesNoMore (own_window known.setup) t
  pub holds_back : HoldsBack (own_window known.setup) known.setup.passing t
  pub gives_back : is_closed t ≡ false → GivesBack known t
