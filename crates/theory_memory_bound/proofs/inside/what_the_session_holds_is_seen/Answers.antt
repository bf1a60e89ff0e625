use Rattle.std.proofs.Common.{◌+◌}
use Rattle.std.specs.Prelude.{sum_by}
use Rattle.model.specs.Tables.{total_size}
use Rattle.theory_errors.specs.Held.{octets_begun}
use Rattle.theory_responses.specs.Held.{octets_in, octets_held}
use Rattle.theory_responses.specs.State.{Kept}
use Rattle.theory_requests.specs.Held.{held_of_all}
use Rattle.upstream_connections.specs.HeldInside.{answers_in}
use Rattle.theory_memory_bound.proofs.HeldInside.{none_more, begun_and, all}
use Rattle.theory_memory_bound.proofs.inside.what_the_session_holds_is_seen.Goals as goal

pub returns-clause-connection : goal.returns-clause-connection
returns-clause-connection c = λ connection. begun_and connection.joiner.begun (total_size connection.decoder.table.fields)

pub returns-clause-kept : goal.returns-clause-kept
returns-clause-kept c = λ kept. none_more (octets_in kept.outbox)

pub returns-clause-offers : goal.returns-clause-offers
returns-clause-offers c = λ offers. none_more (sum_by (λ (k : Kept). octets_in k.box) offers.kept.items)

pub returns-clause-session : goal.returns-clause-session
returns-clause-session c = λ session.
    all (octets_begun session.inbound.block) (total_size session.inbound.table.fields) (total_size session.encoder.table.fields)
    (octets_held session.offers + held_of_all session.upstreams.held + answers_in session.upstreams.live)
