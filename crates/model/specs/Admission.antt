-- Which event may come next: what is open, and what was put out and isn't taken yet.
use Rattle.std.specs.Prelude.{ℕ, ◌+◌, ◌-◌, Bool, true, false, not, ◌&&◌, ◌==◌, nat_le, nat_lt, if◌then◌else◌, List, [], ◌∷◌, length}
use Rattle.model.specs.Limits.{most_untaken}
use Rattle.model.specs.Frames.{spell}
use Rattle.model.specs.Logs.{Event}
use Rattle.model.specs.Logs.Event.{Client, ClientEnd, ClientTook, Up, UpEnd, UpFailed, UpTook, Drain}
use Rattle.model.specs.Logs.Act.{Open, ToUp, Close}
use Rattle.model.specs.Tapes.{Entry, is_closed}
use Rattle.model.specs.Tapes.Entry.{Happened, Sent, Did}

-- the octets for the client that its side hasn't taken
abbrev pub untaken : List Entry → ℕ
untaken [] = 0
untaken (Sent noted ∷ t) = untaken t + length (spell noted.frame)
untaken (Happened (ClientTook count) ∷ t) = untaken t - count
untaken (_ ∷ t) = untaken t

-- more octets for the client than that aren't taken
abbrev pub is_crowded : List Entry → Bool
is_crowded t = nat_lt most_untaken (untaken t)

-- the octets for the upstream k that its side hasn't taken
abbrev pub untaken_up : ℕ → List Entry → ℕ
untaken_up k [] = 0
untaken_up k (Did (ToUp j octets) ∷ t) = if k == j then untaken_up k t + length octets else untaken_up k t
untaken_up k (Happened (UpTook j count) ∷ t) = if k == j then untaken_up k t - count else untaken_up k t
untaken_up k (_ ∷ t) = untaken_up k t

-- a connection is open from when it is opened until it is closed or fails
abbrev pub is_open : ℕ → List Entry → Bool
is_open k [] = false
is_open k (Did (Open j route) ∷ t) = if k == j then true else is_open k t
is_open k (Did (Close j) ∷ t) = if k == j then false else is_open k t
is_open k (Happened (UpFailed j) ∷ t) = if k == j then false else is_open k t
is_open k (_ ∷ t) = is_open k t

-- how many octets of the upstream k may come in one event, where whole messages are passed on
abbrev pub room : ℕ → List Entry → ℕ
room k t = if is_open k t then 65536 else 0

-- the event may come as far as its own numbers go
abbrev pub is_in_order : List Entry → Event → Bool
is_in_order t (Client piece) = nat_le (length piece) 65536 && nat_le (untaken t) 1073741824
is_in_order t ClientEnd = true
is_in_order t (ClientTook count) = nat_le count (untaken t)
is_in_order t (Up k piece) = is_open k t && nat_le (length piece) (room k t)
is_in_order t (UpEnd k) = is_open k t
is_in_order t (UpFailed k) = is_open k t
is_in_order t (UpTook k count) = is_open k t && nat_le count (untaken_up k t)
is_in_order t Drain = true

-- the event may come behind the tape: once the client is closed none may
abbrev pub is_admitted : List Entry → Event → Bool
is_admitted t event = not (is_closed t) && is_in_order t event
