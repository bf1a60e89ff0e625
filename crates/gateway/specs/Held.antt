-- How many octets a gateway holds between steps, its configuration aside, and how many it may.
use Rattle.std.specs.Prelude.{ℕ, ◌+◌, ◌*◌, ◌≤◌, length}
use Rattle.model.specs.Setup.{Setup, own_window}
use Rattle.window_credit.specs.Sides.{queue_of}
use Rattle.theory_memory_bound.specs.Held as session
use Rattle.gateway.specs.Stands.{Standing}

-- all octet lists of its value: the client's octets that aren't a whole frame, and what the session keeps
abbrev pub held_in : Standing → ℕ
held_in g = length g.partial + session.held_in g.kept

-- the most for each of at most 100 streams, and in all
abbrev pub record_bound : Setup → ℕ
record_bound setup = setup.max_body + setup.max_response + 400000

abbrev pub held_bound : Setup → ℕ
held_bound setup = 200000 + 100 * record_bound setup

-- It holds no more: beside its streams, for each of them, of which there are at most 100, and in all. Beside connections for these at most `most_idle` are open,
-- which are idle. Of no stream there are more marks of DATA that waits than receiving windows have octets at first.
pub record IsHeldWithin (setup : Setup) (g : Standing) : Type 0 where
  pub beside : length g.partial + session.held_beside g.kept ≤ 200000
  pub few_responses : length g.kept.offers.kept ≤ 100
  pub few_requests : length g.kept.upstreams.held ≤ 100
  pub few_connections : length g.kept.upstreams.live ≤ 100 + setup.most_idle
  pub each : (stream : ℕ) → session.held_for stream g.kept ≤ record_bound setup
  pub all : held_in g ≤ held_bound setup
  pub few_marks : (stream : ℕ) → length (queue_of stream g.kept.marks) ≤ own_window setup
