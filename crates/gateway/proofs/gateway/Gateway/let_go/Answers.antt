use Rattle.std.proofs.Common.{[], ℕ, List, length, ap, ◌∙◌}
use Rattle.gateway.specs.contracts.gateway.Gateway.{the_view}
use Rattle.gateway.specs.Stands.{Standing}
use Rattle.gateway.proofs.gateway.Gateway.let_go.Goals as goal

pub returns-clause-stays : goal.returns-clause-stays
returns-clause-stays c =
    rw c.count_streams-self-inside.ensures
    (ap (λ (octets : List ℕ). record (the_view c.self.inside) { partial = octets; kept = c.new_session.result; opened = length c.args.self.now.kept.inbound.rows }) c.new.ensures.items
    ∙ ap (λ (g : Standing). record g { partial = []; kept = c.new_session.result; opened = length c.args.self.now.kept.inbound.rows }) c.self.view_is)
