use Rattle.std.proofs.Common.{Some, sym, subst}
use Rattle.std.specs.Prelude.{reverse}
use Rattle.theory_requests.specs.Held.{AreApart}
use Rattle.theory_requests.proofs.Served.{apart_with}
use Rattle.theory_requests.specs.State.Way.{Waiting}
use Rattle.upstream_connections.proofs.upstreams.Upstreams.begin.Goals as goal

pub invariant_of-self-in-Waits : goal.invariant_of-self-in-Waits
invariant_of-self-in-Waits c = record {
  apart = subst AreApart (sym c.in_ok-hold-in-Waits.ensures.ok) (apart_with c.args.id (Some (Waiting c.in-Waits.request.route c.in-Waits.request.text c.in-Waits.request.stage c.in-Waits.request.body)) (reverse c.self.inside.held.items) c.self.invariant.apart);
  few = c.self.invariant.few;
  below = c.self.invariant.below;
  idle_are = c.self.invariant.idle_are;
  keys_are = c.self.invariant.keys_are;
}
