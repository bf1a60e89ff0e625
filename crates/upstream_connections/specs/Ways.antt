-- How far a request is that isn't whole, without how it lies in memory.
use Rattle.theory_requests.specs.State as theory_requests
use Rattle.theory_requests.specs.State.Way.{Waiting, Going, Dropped}
use Rattle.upstream_connections.specs.declared.held.Way.{Way}
use Rattle.upstream_connections.specs.declared.held.Way.TheVariants as way

-- its way, as the rule of requests has it
abbrev pub way_of : Way → theory_requests.Way
way_of (way.Waiting request) = Waiting request.route request.text request.stage request.body
way_of (way.Going k stage) = Going k stage
way_of way.Dropped = Dropped
