use Rattle.std.proofs.Common.{reverse, sym, ap, ◌∙◌, subst}
use Rattle.theory_errors.specs.Rule.{known_of}
use Rattle.theory.specs.State.{conducts, tape_of}
use Rattle.theory_requests.specs.Lines.{idle_ones}
use Rattle.upstream_connections.specs.Connections.{lives}
use Rattle.gateway.specs.Rooms.{AreAllIdle}
use Rattle.gateway.specs.Stands.{Standing}
use Rattle.gateway.proofs.Idle.{idle_by_log, none_idle_by_log}
use Rattle.gateway.proofs.gateway.Gateway.idle.Goals as goal

pub returns-then-not-is_open : goal.returns-then-not-is_open
returns-then-not-is_open c = λ setup log run stands. none_idle_by_log setup c.args.self.now log run stands (sym c.is_open.ensures ∙ c.if-not-is_open.true)

pub returns : goal.returns
returns c = λ setup log run stands.
    subst (AreAllIdle (known_of setup (conducts run)) (tape_of run))
    (sym (c.idle.ensures ∙ ap (λ i. reverse (idle_ones (lives i.session.upstreams.live))) c.self-inside.view_is ∙ ap (λ (g : Standing). reverse (idle_ones (lives g.kept.upstreams.live))) c.self.view_is))
    (idle_by_log setup c.args.self.now log run stands (sym c.is_open.ensures ∙ c.if-not-is_open.false))
