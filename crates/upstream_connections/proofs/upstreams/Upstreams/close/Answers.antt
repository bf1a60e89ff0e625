use Rattle.std.proofs.Common.{sym, ap, ◌∙◌, subst}
use Rattle.std.specs.Prelude.{suc, reverse}
use Rattle.theory_requests.specs.Held.{AreApart}
use Rattle.theory_requests.specs.Lines.{without}
use Rattle.upstream_connections.specs.Connections.{number_of, AreBelow}
use Rattle.upstream_connections.specs.Keys.{idle_keys}
use Rattle.upstream_connections.proofs.Requests.{apart_dropped}
use Rattle.upstream_connections.proofs.Openings.{below_without}
use Rattle.upstream_connections.proofs.Idling.{idle_closed}
use Rattle.upstream_connections.proofs.Keys.{fits_all}
use Rattle.upstream_connections.proofs.upstreams.Upstreams.close.Goals as goal

pub strike-requires-clause-below : goal.strike-requires-clause-below
strike-requires-clause-below c = rw c.deref.ensures.value (fits_all c.self.inside.count c.self.invariant.few (reverse c.self.inside.connections.items) c.self.invariant.below)

pub invariant_of-self : goal.invariant_of-self
invariant_of-self c = record {
  apart = subst AreApart (sym c.drop_from.ensures) (apart_dropped c.args.k (reverse c.self.inside.held.items) c.self.invariant.apart);
  few = c.self.invariant.few;
  below = subst (AreBelow (suc c.self.inside.count)) (sym c.remove.ensures) (below_without c.args.k (suc c.self.inside.count) (reverse c.self.inside.connections.items) c.self.invariant.below);
  idle_are = c.strike.ensures.numbers ∙ idle_closed c.self.inside.connections.items c.remove.new.connections.items c.self.inside.idle.numbers.items c.self.invariant.idle_are c.args.k c.remove.ensures;
  keys_are = c.strike.ensures.keys ∙ ap (λ cs. idle_keys (without number_of c.args.k (reverse cs))) c.deref.ensures.value ∙ sym (ap idle_keys c.remove.ensures);
}
