use Rattle.std.proofs.Common.{refl, sym, subst}
use Rattle.std.specs.Prelude.{suc, reverse}
use Rattle.upstream_connections.specs.Connections.{AreBelow}
use Rattle.upstream_connections.specs.Connections.{taken_at}
use Rattle.upstream_connections.proofs.Openings.{below_changed}
use Rattle.upstream_connections.proofs.Idling.{idle_same}
use Rattle.upstream_connections.proofs.Keys.{keys_same}
use Rattle.upstream_connections.proofs.upstreams.Upstreams.take.Goals as goal

pub invariant_of-self : goal.invariant_of-self
invariant_of-self c = record {
  apart = c.self.invariant.apart;
  few = c.self.invariant.few;
  below = subst (AreBelow (suc c.self.inside.count)) (sym c.take.ensures) (below_changed (taken_at c.args.k c.args.count) (λ x. refl) (suc c.self.inside.count) (reverse c.self.inside.connections.items) c.self.invariant.below);
  idle_are = idle_same c.self.inside.connections.items c.take.new.connections.items c.self.inside.idle.numbers.items c.self.invariant.idle_are (taken_at c.args.k c.args.count) (λ x. refl) c.take.ensures;
  keys_are = keys_same c.self.inside.connections.items c.take.new.connections.items c.self.inside.idle.keys.items c.self.invariant.keys_are (taken_at c.args.k c.args.count) (λ x. refl) c.take.ensures;
}
