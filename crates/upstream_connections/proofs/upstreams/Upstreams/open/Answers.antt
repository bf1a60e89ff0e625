use Rattle.std.proofs.Common.{◌+◌, ◌<◌, sym, ap, subst, arith}
use Rattle.std.specs.Prelude.{reverse}
use Rattle.model.specs.Limits.{most_streams}
use Rattle.theory_requests.specs.Held.{AreApart}
use Rattle.theory_requests.specs.State.{unless_whole}
use Rattle.theory_requests.specs.State.Way.{Going}
use Rattle.theory_requests.proofs.Served.{apart_with}
use Rattle.upstream_connections.specs.Connections.{Connection, number_of}
use Rattle.upstream_connections.specs.Kept.{State}
use Rattle.upstream_connections.specs.Requests.{stage_of}
use Rattle.upstream_connections.proofs.Openings.{below_opened}
use Rattle.upstream_connections.proofs.Idling.{idle_opened}
use Rattle.upstream_connections.proofs.Keys.{keys_opened}
use Rattle.upstream_connections.proofs.upstreams.Upstreams.open.Goals as goal

pub invariant_of-self-2 : goal.invariant_of-self-2
invariant_of-self-2 c = record {
  apart = subst AreApart (sym c.in_default.ensures.ok) (apart_with c.args.stream (unless_whole (stage_of c.args.rest) (Going (c.self.inside.count + 1) (stage_of c.args.rest))) (reverse c.self.inside.held.items) c.self.invariant.apart);
  few = let room : c.self.inside.count < most_streams = subst (λ (s : State). s.count < most_streams) (sym c.self.view_is) c.requires in omega (arith, room);
  below = below_opened c.self.inside.count c.self.inside.connections.items c.push.new.self.items c.opened-connection.result c.in_ok-push.ensures.items (ap number_of c.opened-connection.ensures.is) c.self.invariant.below;
  idle_are = idle_opened c.self.inside.connections.items c.push.new.self.items c.self.inside.idle.numbers.items c.self.invariant.idle_are c.opened-connection.result c.in_ok-push.ensures.items (ap (λ (x : Connection). x.live.answer) c.opened-connection.ensures.is);
  keys_are = keys_opened c.self.inside.connections.items c.push.new.self.items c.self.inside.idle.keys.items c.self.invariant.keys_are c.opened-connection.result c.in_ok-push.ensures.items (ap (λ (x : Connection). x.live.answer) c.opened-connection.ensures.is);
}
