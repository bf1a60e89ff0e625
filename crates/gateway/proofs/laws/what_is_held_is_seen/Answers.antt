use Rattle.std.proofs.Common.{◌+◌, length}
use Rattle.theory_memory_bound.specs.Held.{held_in as held_in_session}
use Rattle.gateway.specs.HeldInside.{in_routes}
use Rattle.gateway.proofs.HeldInside.{none_more}
use Rattle.gateway.proofs.laws.what_is_held_is_seen.Goals as goal

pub returns : goal.returns
returns c = λ gateway. none_more (in_routes gateway.routes.items) (length gateway.partial.items + held_in_session gateway.session)
