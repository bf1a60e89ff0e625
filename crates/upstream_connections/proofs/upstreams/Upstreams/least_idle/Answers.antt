use Rattle.std.proofs.Common.{◌∙◌, sym, ap, subst}
use Rattle.std.specs.Prelude.{suc, reverse}
use Rattle.theory_requests.specs.Lines.{least_idle}
use Rattle.upstream_connections.specs.Connections.{lives, Rise}
use Rattle.upstream_connections.specs.Keys.{least_key}
use Rattle.upstream_connections.specs.Kept.{State}
use Rattle.upstream_connections.proofs.Keys.{all_fit, keys_rise}
use Rattle.upstream_connections.proofs.LeastKey.{least_is}
use Rattle.upstream_connections.proofs.upstreams.Upstreams.least_idle.Goals as goal

pub least_of-requires : goal.least_of-requires
least_of-requires c =
    subst Rise (sym c.self.invariant.keys_are)
    (keys_rise (suc c.self.inside.count) (reverse c.self.inside.connections.items) c.self.invariant.below (all_fit c.self.inside.count c.self.invariant.few))

pub returns : goal.returns
returns c =
    c.least_of.ensures
    ∙ ap (least_key c.args.route) c.self.invariant.keys_are
    ∙ least_is c.args.route (suc c.self.inside.count) (reverse c.self.inside.connections.items) c.self.invariant.below (all_fit c.self.inside.count c.self.invariant.few)
    ∙ ap (λ (s : State). least_idle c.args.route (lives s.live)) c.self.view_is
