use Rattle.std.proofs.Common.{refl, sym, ap, ◌∙◌, subst}
use Rattle.std.specs.Prelude.{suc, reverse}
use Rattle.theory_requests.specs.Held.{AreApart}
use Rattle.theory_requests.specs.Lines.{without}
use Rattle.theory_requests.specs.State.{unless_whole}
use Rattle.theory_requests.specs.State.Way.{Going}
use Rattle.theory_requests.proofs.Served.{apart_with}
use Rattle.upstream_connections.specs.Connections.{number_of, AreBelow, given_at}
use Rattle.upstream_connections.specs.Keys.{idle_keys}
use Rattle.upstream_connections.specs.Requests.{stage_of}
use Rattle.upstream_connections.proofs.Openings.{below_changed}
use Rattle.upstream_connections.proofs.Idling.{idle_given}
use Rattle.upstream_connections.proofs.Keys.{fits_all, keys_given}
use Rattle.upstream_connections.proofs.upstreams.Upstreams.give.Goals as goal

pub strike-requires-clause-below : goal.strike-requires-clause-below
strike-requires-clause-below c = rw c.deref.ensures.value (fits_all c.self.inside.count c.self.invariant.few (reverse c.self.inside.connections.items) c.self.invariant.below)

pub invariant_of-self-2 : goal.invariant_of-self-2
invariant_of-self-2 c = record {
  apart = subst AreApart (sym c.in_ok-hold_rest.ensures.ok) (apart_with c.args.stream (unless_whole (stage_of c.args.rest) (Going c.args.k (stage_of c.args.rest))) (reverse c.self.inside.held.items) c.self.invariant.apart);
  few = c.self.invariant.few;
  below = subst (AreBelow (suc c.self.inside.count)) (sym c.give.ensures) (below_changed (given_at c.args.k c.args.stream c.new-answer.result) (λ x. refl) (suc c.self.inside.count) (reverse c.self.inside.connections.items) c.self.invariant.below);
  idle_are = c.strike.ensures.numbers
      ∙ idle_given c.self.inside.connections.items c.give.new.connections.items c.self.inside.idle.numbers.items c.self.invariant.idle_are c.args.k (suc c.self.inside.count) c.self.invariant.below c.args.stream c.new-answer.result c.give.ensures;
  keys_are = c.strike.ensures.keys
      ∙ ap (λ cs. idle_keys (without number_of c.args.k (reverse cs))) c.deref.ensures.value
      ∙ keys_given c.self.inside.connections.items c.give.new.connections.items c.args.k (suc c.self.inside.count) c.self.invariant.below c.args.stream c.new-answer.result c.give.ensures;
}
