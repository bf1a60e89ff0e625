use Rattle.std.proofs.Common.{sym, subst}
use Rattle.std.specs.Prelude.{reverse}
use Rattle.theory_requests.specs.Held.{AreApart}
use Rattle.theory_requests.proofs.Served.{apart_without}
use Rattle.upstream_connections.proofs.upstreams.Upstreams.forget.Goals as goal

pub invariant_of-self : goal.invariant_of-self
invariant_of-self c = record {
  apart = subst AreApart (sym c.take-request.ensures.rest) (apart_without c.args.id (reverse c.self.inside.held.items) c.self.invariant.apart);
  few = c.self.invariant.few;
  below = c.self.invariant.below;
  idle_are = c.self.invariant.idle_are;
  keys_are = c.self.invariant.keys_are;
}
