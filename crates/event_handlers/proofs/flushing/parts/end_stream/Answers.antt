use Rattle.std.proofs.Common.{◌≡◌, true, List, ap, ◌∙◌, sym}
use Rattle.theory_errors.specs.Rows.{Row}
use Rattle.refinement.specs.View.{View}
use Rattle.streams.specs.Asked.{is_active}
use Rattle.connection_state.proofs.Kept.{active_found}
use Rattle.event_handlers.proofs.Results.{stopped}
use Rattle.event_handlers.proofs.flushing.parts.end_stream.Goals as goal

-- the connection ends in place of the reset: the stream was active
pub returns-in_err-pay-clause-over : goal.returns-in_err-pay-clause-over
returns-in_err-pay-clause-over c =
    let found : is_active c.streams.result.now c.args.id ≡ true = active_found _ c.streams.result.now c.args.id c.find.result (sym c.is_some.ensures ∙ c.if-is_some.true) c.find.ensures.live in
    let live : is_active c.args.session.now.inbound.rows c.args.id ≡ true = ap (λ (v : View). is_active v.inbound.rows c.args.id) (sym c.session.view_is) ∙ ap (λ (rows : List Row). is_active rows c.args.id) (sym c.streams.ensures.is) ∙ found in
    stopped c.from_residual.result c.in_err-pay.field-0.0 c.from_residual.ensures.1 (λ is. (live, is)) c.in_err-pay.ensures.over
