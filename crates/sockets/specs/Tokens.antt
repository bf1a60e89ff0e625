-- The tokens under which sockets are reported.
use Rattle.std.specs.Prelude.{◌≡◌, ℕ, ◌+◌, ◌*◌, ◌/◌, ◌%◌, ◌^◌}
use Rattle.mio.specs.Event.{event_token}
use Rattle.mio.specs.declared.event.event.Event.{Event}
use Rattle.sockets.specs.declared.reporting.Reporting.{Reporting}
use Rattle.sockets.specs.declared.reporting.Reporting.TheVariants.{Own, Shared}

-- the number of a world's client among those of a reactor; a world with a poll of its own has none beside it
abbrev pub number_of_client : Reporting → ℕ
number_of_client (Own own) = 0
number_of_client (Shared shared) = shared.client

-- The token of a socket, by the number of its client and its own among that client's. Of a world without others beside it it is its own number.
abbrev pub token_number : ℕ → ℕ → ℕ
token_number client number = client * 2 ^ 32 + number

-- the number of the socket that is reported, among those of its client
abbrev pub number_reported : Event → ℕ
number_reported report = (event_token report).0 % 2 ^ 32

-- The report is of a socket of the client with this number.
abbrev pub IsOfClient : Event → ℕ → Type 0
IsOfClient report number = (event_token report).0 / 2 ^ 32 ≡ number

-- It isn't.
abbrev pub IsOfAnother : Event → ℕ → Type 0
IsOfAnother report number = IsOfClient report number → ⊥
