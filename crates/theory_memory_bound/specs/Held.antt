-- How many octets the session keeps, as sums over all octet lists of what it keeps, and how many there may be where it rests.
use Rattle.std.specs.Prelude.{ℕ, ◌+◌, ◌*◌, ◌≤◌, ◌==◌, if◌then◌else◌, List, [], ◌∷◌, length}
use Rattle.model.specs.Setup.{Setup, own_window}
use Rattle.model.specs.Tables.{total_size}
use Rattle.theory_errors.specs.Held.{octets_begun}
use Rattle.theory_responses.specs.Held as offers
use Rattle.theory_requests.specs.Held as requests
use Rattle.upstream_response.specs.HeldInside.{octets_of}
use Rattle.upstream_connections.specs.Connections.{Connection, stream_of}
use Rattle.upstream_connections.specs.HeldInside.{answers_in}
use Rattle.theory.specs.Held.{on_offer_for}
use Rattle.refinement.specs.View.{View, waiting_for}

-- ---- answers that are being read

-- the octets of the answers of a stream's connections
abbrev pub answers_for : ℕ → List Connection → ℕ
answers_for stream [] = 0
answers_for stream (c ∷ cs) = (if stream_of c == stream then octets_of c.answer else 0) + answers_for stream cs

-- ---- all that is kept

-- what is kept for a stream: what is on offer for it, what is held of its request, and the answers that are being read for it
abbrev pub held_for : ℕ → View → ℕ
held_for stream kept =
    on_offer_for stream kept.offers.kept + requests.held_requests stream kept.upstreams.held + answers_for stream kept.upstreams.live

-- what is kept beside that: the client's header block that isn't complete, and the tables of both directions, each field with the 32 that
-- its size counts
abbrev pub held_beside : View → ℕ
held_beside kept = octets_begun kept.inbound.block + total_size kept.inbound.table.fields + total_size kept.encoding.table.fields

-- all of it, stream or no stream
abbrev pub held_in : View → ℕ
held_in kept =
    held_beside kept + (offers.octets_held kept.offers + requests.held_of_all kept.upstreams.held + answers_in kept.upstreams.live)

-- ---- how many there may be

-- beside what is kept for streams, for each of at most so many streams, and in all
abbrev pub most_beside : ℕ
most_beside = 150000

abbrev pub most_streams : ℕ
most_streams = 100

abbrev pub most_for_stream : Setup → ℕ
most_for_stream setup = setup.max_body + setup.max_response + 400000

abbrev pub most_in_all : Setup → ℕ
most_in_all setup = most_beside + most_streams * most_for_stream setup

-- of connections one for each of those streams, and those that are idle
abbrev pub most_connections : Setup → ℕ
most_connections setup = most_streams + setup.most_idle

-- Little is kept; and of no stream's DATA more octets wait for its upstream's side than receiving windows have at first.
pub record IsSmall (setup : Setup) (kept : View) : Type 0 where
  pub beside : held_beside kept ≤ most_beside
  pub few_boxes : length kept.offers.kept ≤ most_streams
  pub few_requests : length kept.upstreams.held ≤ most_streams
  pub few_connections : length kept.upstreams.live ≤ most_connections setup
  pub each : (stream : ℕ) → held_for stream kept ≤ most_for_stream setup
  pub all : held_in kept ≤ most_in_all setup
  pub few_waiting : (stream : ℕ) → waiting_for stream kept ≤ own_window setup
