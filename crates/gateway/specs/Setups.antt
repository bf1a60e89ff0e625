-- The configuration without where it lies in memory.
use Rattle.std.specs.Prelude.{◌≤◌, ◌-◌, length, map}
use Rattle.model.specs.Setup as setup
use Rattle.model.specs.Setup.{Setup}
use Rattle.gateway.specs.declared.config.Config.{Config}
use Rattle.gateway.specs.declared.config.Route.{Route}
use Rattle.gateway.specs.declared.config.Policy.{Policy}
use Rattle.gateway.specs.declared.config.Policy.TheVariants as theory
use Rattle.gateway.specs.declared.config.Passing.{Passing}
use Rattle.gateway.specs.declared.config.Passing.TheVariants as passing

abbrev pub route_of : Route → setup.Route
route_of route = record { authority = route.authority.items; path = route.prefix.items }

abbrev pub policy_of : Policy → setup.Policy
policy_of theory.Plain = setup.Policy.Plain
policy_of theory.Indexing = setup.Policy.Indexing

abbrev pub passing_of : Passing → setup.Passing
passing_of passing.Whole = setup.Passing.Whole
passing_of passing.Streaming = setup.Passing.Streaming

abbrev pub setup_of : Config → setup.Setup
setup_of config = record {
  routes = map route_of config.routes.items;
  policy = policy_of config.policy;
  passing = passing_of config.passing;
  max_body = config.max_body;
  max_response = config.max_response;
  keep = config.keep;
  most_idle = config.idle;
  more_room = config.window - 65535;
}

-- What a gateway can be set up with: maxima within their limits, windows of at most 1,048,576 octets, and no more routes than have a number.
pub record IsServable (setup : Setup) : Type 0 where
  pub body : setup.max_body ≤ 1073741824
  pub response : setup.max_response ≤ 1073741824
  pub room : setup.more_room ≤ 983041
  pub few : length setup.routes ≤ 4294967295
