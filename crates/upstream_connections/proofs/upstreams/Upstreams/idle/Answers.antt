use Rattle.std.specs.Prelude.{reverse}
use Rattle.std.proofs.Common.{ap, ◌∙◌}
use Rattle.theory_requests.specs.Lines.{idle_ones}
use Rattle.upstream_connections.specs.Connections.{lives}
use Rattle.upstream_connections.specs.Kept.{State}
use Rattle.upstream_connections.proofs.upstreams.Upstreams.idle.Goals as goal

pub returns : goal.returns
returns c =
    c.as_slice.ensures.value ∙ c.self.invariant.idle_are
    ∙ ap (λ (s : State). reverse (idle_ones (lives s.live))) c.self.view_is
