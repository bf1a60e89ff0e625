use Rattle.std.proofs.Common.{◌≡◌, true, ap, ◌∙◌, sym, subst}
use Rattle.model.specs.Causes.Cause.{BadAnswer}
use Rattle.theory_responses.specs.State as theory_responses
use Rattle.theory_responses.specs.State.{change, answered}
use Rattle.send_queue.specs.Asked.{is_cut}
use Rattle.streams.specs.Asked.{is_active}
use Rattle.connection_state.specs.Inbound.{Inbound}
use Rattle.upstream_connections.specs.Kept as upstreams
use Rattle.refinement.specs.View.{View}
use Rattle.event_handlers.proofs.Results.{stopped}
use Rattle.event_handlers.specs.Stopping.{IsCalmed}
use Rattle.event_handlers.specs.exchanges.Giving.{is_cut_then, replied_to}
use Rattle.event_handlers.proofs.exchanges.FailedRows.{active_then}
use Rattle.event_handlers.proofs.exchanges.failing.give_up.Goals as goal

pub reset-requires-clause-live : goal.reset-requires-clause-live
reset-requires-clause-live c =
    let live : is_active c.session.inside.inbound.rows c.args.stream ≡ true = ap (λ (v : View). is_active v.inbound.rows c.args.stream) c.session.view_is ∙ c.requires.live in
    ap (λ (x : Inbound). is_active x.rows c.args.stream) c.answer_failed.ensures ∙ active_then c.session.inside.inbound.rows c.args.stream live c.args.stream ∙ live

pub returns-in_err-waiting-clause-over : goal.returns-in_err-waiting-clause-over
returns-in_err-waiting-clause-over c =
    let old : View = record { inbound = c.session.inside.inbound; offers = c.session.inside.offers; upstreams = c.session.inside.upstreams; marks = c.session.inside.marks; encoding = c.session.inside.encoder; untaken = c.session.inside.untaken } in
    let offered : c.reply.new.self ≡ record old.offers { kept = change c.args.stream (answered BadAnswer) old.offers.kept } = c.in_ok-reply.ensures.ok in
    let same : record old { inbound = c.answer_failed.new.self; offers = c.reply.new.self; upstreams = c.forget.new.self } ≡ replied_to c.args.stream c.args.session.now =
    ap (λ (i : Inbound). record old { inbound = i; offers = c.reply.new.self; upstreams = c.forget.new.self }) c.answer_failed.ensures
    ∙ ap (λ (o : theory_responses.State). record (replied_to c.args.stream old) { offers = o; upstreams = c.forget.new.self }) offered
    ∙ ap (λ (u : upstreams.State). record (replied_to c.args.stream old) { upstreams = u }) c.forget.ensures
    ∙ ap (replied_to c.args.stream) c.session.view_is in
    let cut : is_cut_then c.args.stream c.args.session.now ≡ true = ap (λ (v : View). is_cut_then c.args.stream v) (sym c.session.view_is) ∙ ap (λ (o : theory_responses.State). is_cut c.args.stream o.kept) (sym offered) ∙ sym c.is_cut.ensures ∙ c.if-is_cut.true in
    stopped c.from_residual-in_err-waiting.result c.in_err-waiting.field-0.0 c.from_residual-in_err-waiting.ensures.1 (λ is. (cut, subst (λ (v : View). IsCalmed v c.args.out.now c.reset.new.out) same is)) c.in_err-waiting.ensures.over
