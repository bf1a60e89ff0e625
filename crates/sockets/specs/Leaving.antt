-- How long a client is left.
use Rattle.std.specs.Prelude.{ℕ, ◌-◌, ◌*◌, nat_lt, if◌then◌else◌, min}
use Rattle.std.specs.Time.{instant_nanos}
use Rattle.std.specs.declared.time.Instant.{Instant}
use Rattle.sockets.specs.declared.leaving.Leaving.{Leaving}

abbrev pub seconds : ℕ → ℕ
seconds count = count * 1000000000

-- how long it was until now
abbrev pub since : Instant → Instant → ℕ
since now earlier = instant_nanos now - instant_nanos earlier

-- How long a client is waited for yet: where something waits for it, a minute since its socket last took some; else five seconds since something last came of
-- it, and at most half a minute since all was taken.
abbrev pub time_left : Instant → Leaving → ℕ
time_left now leaving =
    if nat_lt 0 leaving.waiting
    then seconds 60 - since now leaving.taken
    else min (seconds 5 - since now leaving.heard) (seconds 30 - since now leaving.taken)

-- So many octets wait for it now: where they are fewer than before its socket took some.
abbrev pub waits : Instant → ℕ → Leaving → Leaving
waits now count leaving =
    if nat_lt count leaving.waiting
    then record { waiting = count; taken = now; heard = now }
    else record leaving { waiting = count }
