-- How many octets lie in a gateway. The count takes the struct apart by the names of all its fields, and counts each by its type: what lies in one field
-- more has to be counted here.
use Rattle.std.specs.Prelude.{ℕ, ◌+◌, Bool, List, [], ◌∷◌, length}
use Rattle.model.specs.Setup.{Route}
use Rattle.upstream_response.specs.declared.answer.ResponsePassing.{ResponsePassing}
use Rattle.theory_memory_bound.specs.Held.{held_in as held_in_session}
use Rattle.gateway.specs.declared.phase.Phase.{Phase}
use Rattle.gateway.specs.declared.gateway.Gateway.TheInside.{Inside}

-- none in a number, none in a flag, none in how bodies are passed on, which has a number at most, and none in how far the connection is, one of a few names
abbrev pub in_number : ℕ → ℕ
in_number number = 0

abbrev pub in_flag : Bool → ℕ
in_flag flag = 0

abbrev pub in_passing : ResponsePassing → ℕ
in_passing passing = 0

abbrev pub in_phase : Phase → ℕ
in_phase phase = 0

-- in the routes of its configuration
abbrev pub in_routes : List Route → ℕ
in_routes [] = 0
in_routes (route ∷ routes) = length route.authority + length route.path + in_routes routes

-- in a gateway: its routes, the client's octets that aren't a whole frame, and what the session keeps
abbrev pub in_gateway : Inside → ℕ
in_gateway = λ record {
  alloc = alloc;
  routes = routes;
  max_body = max_body;
  passing = passing;
  keep = keep;
  most_idle = most_idle;
  phase = phase;
  partial = partial;
  session = session;
  opened = opened;
}.
    in_number max_body + in_passing passing + in_flag keep + in_number most_idle + in_phase phase + in_number opened + in_routes routes.items
    + (length partial.items + held_in_session session)
