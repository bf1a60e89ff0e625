-- A client that is being left.
use Rattle.std.specs.Prelude.{◌≡◌, ◌==◌, ◌&&◌, ◌⊎◌, Bool, true, false, not, length}
use Rattle.std.specs.Duration.{as_nanos}
use Rattle.std.specs.declared.time.Duration.{Duration}
use Rattle.std.specs.declared.time.Instant.{Instant}
use Rattle.sockets.specs.Leaving.{time_left}
use Rattle.sockets.specs.declared.side.Side.{Side}
use Rattle.sockets.specs.declared.leaving.Leaving.{Leaving}
use Rattle.sockets.specs.declared.departure.Departure.{Departure}

-- A client begins to be left now: what waits for it waits still.
abbrev pub departing : {S : Type 0} → Instant → Side S → Departure S
departing now client = record { client = client; leaving = record { waiting = length client.out.waiting; taken = now; heard = now } }

-- All that was put out for a client is written, and its end was read.
abbrev pub is_left : {S : Type 0} → Side S → Bool
is_left client = (length client.out.waiting == 0) && client.ended

-- So it is with the client, or by now it was waited for long enough.
abbrev pub IsOverBy : {S : Type 0} → Instant → Side S → Leaving → Type 0
IsOverBy now client leaving = (is_left client ≡ true) ⊎ (time_left now leaving ≡ 0)

abbrev pub IsOver : {S : Type 0} → Instant → Departure S → Type 0
IsOver now departure = IsOverBy now departure.client departure.leaving

-- How long a report of it may be waited for: as long as is left, or not at all where more may be read of it at once.
abbrev pub MayWaitBy : {S : Type 0} → Instant → Side S → Leaving → Duration → Type 0
MayWaitBy now client leaving most = (as_nanos most ≡ 0) ⊎ (((client.readable && not client.ended) ≡ false) × (as_nanos most ≡ time_left now leaving))

abbrev pub MayWait : {S : Type 0} → Instant → Departure S → Duration → Type 0
MayWait now departure = MayWaitBy now departure.client departure.leaving
