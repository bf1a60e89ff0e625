-- What becomes of a connection whose response is whole, and of an idle one of which octets come.
use Rattle.std.specs.Prelude.{◌≡◌, ℕ, Bool, true, false, List, [], ◌∷◌, Option, None}
use Rattle.model.specs.Logs.{Output}
use Rattle.model.specs.Logs.Act.{Close}
use Rattle.model.specs.Logs.Output.{Does}
use Rattle.model.specs.Setup.{Setup}
use Rattle.model.specs.Tapes.{put}
use Rattle.theory_requests.specs.Lines.{find, Heard}
use Rattle.theory_requests.specs.Lines.Heard.{Keepable, Finished}
use Rattle.theory_requests.specs.State.{Held}
use Rattle.upstream_connections.specs.Connections.{number_of, heard_at, is_idle_one}
use Rattle.refinement.specs.View.{View}
use Rattle.event_handlers.specs.exchanges.Giving.{closed_at}

-- connections are kept as the setup says, and as many may be idle
abbrev pub IsKeeping : Bool → ℕ → Setup → Type 0
IsKeeping keep most setup = (keep ≡ setup.keep) × (most ≡ setup.most_idle)

-- octets of an idle connection close it
abbrev pub closed_by : List ℕ → ℕ → View → View
closed_by [] k kept = kept
closed_by (octet ∷ octets) k kept = closed_at k kept

abbrev pub put_closed_by : List ℕ → ℕ → List Output → List Output
put_closed_by [] k outputs = outputs
put_closed_by (octet ∷ octets) k outputs = put outputs (Does (Close k))

-- a response that leaves its connection open lets it be kept where connections are kept, and nothing is held of its request any more
abbrev pub verdict_by : Bool → Option Held → Heard
verdict_by true None = Keepable
verdict_by _ _ = Finished

-- this was heard of the response on a connection, where so many may be idle
abbrev pub marked_as : ℕ → ℕ → Heard → View → View
marked_as most k heard kept = record kept { upstreams = record kept.upstreams { live = heard_at most k heard kept.upstreams.live } }

-- whether it is idle then
abbrev pub is_idle_then : ℕ → ℕ → Heard → View → Bool
is_idle_then most k heard kept = is_idle_one (find number_of k (heard_at most k heard kept.upstreams.live))

-- it stays open where it is idle, and else is closed
abbrev pub closed_unless : Bool → ℕ → View → View
closed_unless true k kept = kept
closed_unless false k kept = closed_at k kept

abbrev pub put_unless : Bool → ℕ → List Output → List Output
put_unless true k outputs = outputs
put_unless false k outputs = put outputs (Does (Close k))

-- The response is whole, and what was heard is this: the connection is idle, or closed.
abbrev pub finished_at : ℕ → ℕ → Heard → View → View
finished_at most k heard kept = closed_unless (is_idle_then most k heard kept) k (marked_as most k heard kept)

abbrev pub put_finished : ℕ → ℕ → Heard → View → List Output → List Output
put_finished most k heard kept outputs = put_unless (is_idle_then most k heard kept) k outputs
