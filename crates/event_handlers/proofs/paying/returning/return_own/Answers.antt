use Rattle.std.proofs.Common.{◌≡◌, ◌<◌, true, not, if◌then◌else◌, List, refl, sym, ◌∙◌, ap, subst, arith}
use Rattle.std.proofs.lemmas.Bool.{and_parts, eq-eqb}
use Rattle.model.specs.Frames.{spell}
use Rattle.model.specs.Logs.{Output}
use Rattle.model.specs.Logs.Output.{ToClient}
use Rattle.model.specs.Tapes.{put}
use Rattle.theory_errors.specs.Rows.{find}
use Rattle.theory_errors.specs.Judging.{is_over_in}
use Rattle.effects.specs.Sent.{window_update}
use Rattle.streams.specs.Asked.{has}
use Rattle.streams.specs.Sending.{AreReturnable}
use Rattle.refinement.specs.View.{View, balanced}
use Rattle.refinement.specs.Bringing.{PerformsOwn}
use Rattle.event_handlers.specs.paying.Returning.{due_on_stream, goes_back_on, given_on_stream, IsReturned}
use Rattle.event_handlers.proofs.Results.{on_ok, on_three, on_over}
use Rattle.event_handlers.proofs.paying.Fitting.{fits_due}
use Rattle.event_handlers.proofs.paying.Returned.{returned_none, returned_on_stream}
use Rattle.event_handlers.proofs.paying.Settled.{goes_back}
use Rattle.event_handlers.proofs.paying.Settling.{forgets}
use Rattle.event_handlers.proofs.paying.Taken.{none_on_stream, taken_on_stream, own_ends}
use Rattle.event_handlers.proofs.paying.returning.return_own.Goals as goal

pub returns-then-own-eq0-clause-performs : goal.returns-then-own-eq0-clause-performs
returns-then-own-eq0-clause-performs c = λ setup. none_on_stream setup c.args.session.now c.args.stream c.args.own c.args.out.now c.if-own-eq0.true

pub returns-then-own-eq0-clause-stays : goal.returns-then-own-eq0-clause-stays
returns-then-own-eq0-clause-stays c = returned_none c.args.session.now

pub returns-then-not-goes_back_on-clause-performs : goal.returns-then-not-goes_back_on-clause-performs
returns-then-not-goes_back_on-clause-performs c = λ setup. forgets setup c.args.session.now c.args.stream c.args.own c.args.out.now (sym c.goes_back_on.ensures ∙ c.if-not-goes_back_on.true)

pub returns-then-not-goes_back_on-clause-stays : goal.returns-then-not-goes_back_on-clause-stays
returns-then-not-goes_back_on-clause-stays c = returned_none c.args.session.now

-- they go back

pub give_back_on-requires-clause-live : goal.give_back_on-requires-clause-live
give_back_on-requires-clause-live c = (goes_back c.args.session.now.inbound c.args.stream (sym c.goes_back_on.ensures ∙ c.if-not-goes_back_on.false)).active

pub give_back_on-requires-clause-fits : goal.give_back_on-requires-clause-fits
give_back_on-requires-clause-fits c =
    let r = c.requires.reached in
    subst (λ n. AreReturnable n (find c.args.session.now.inbound.rows c.args.stream)) (ap (λ b. if b then c.args.own else 0) (eq-eqb c.args.stream c.args.stream refl) ∙ sym c.in_ok-octets.ensures.0)
    (fits_due r.0 r.1.0 c.args.session.now (due_on_stream c.args.stream c.args.own) r.1.1 r.1.2 c.args.stream (goes_back c.args.session.now.inbound c.args.stream (sym c.goes_back_on.ensures ∙ c.if-not-goes_back_on.false)))

pub give_back_on-requires-clause-small : goal.give_back_on-requires-clause-small
give_back_on-requires-clause-small c =
    c.requires.numbered c.args.stream
    (and_parts (has c.args.session.now.inbound.rows c.args.stream) (not (is_over_in (find c.args.session.now.inbound.rows c.args.stream)))
    (goes_back c.args.session.now.inbound c.args.stream (sym c.goes_back_on.ensures ∙ c.if-not-goes_back_on.false)).active).0

pub returns-clause-performs : goal.returns-clause-performs
returns-clause-performs c =
    let same = c.in_ok-octets.ensures.0 in
    let least = c.in_ok-octets.ensures.1 in
    let not_none = c.if-own-eq0.false in
    let some : 0 < c.args.own = omega (arith, not_none) in
    let small : c.args.own < 2147483648 = omega (arith, same, least) in
    let goes : goes_back_on c.args.session.now.inbound.rows c.args.stream ≡ true = sym c.goes_back_on.ensures ∙ c.if-not-goes_back_on.false in
    let row = and_parts (has c.args.session.now.inbound.rows c.args.stream) (not (is_over_in (find c.args.session.now.inbound.rows c.args.stream))) (goes_back c.args.session.now.inbound c.args.stream goes).active in
    on_three c.give_back_on.result
    (λ given puts free setup.
    let views : c.give_back_on.new.session ≡ given_on_stream c.args.session.now c.args.stream c.args.own = given ∙ ap (given_on_stream c.args.session.now c.args.stream) same in
    let outs : c.give_back_on.new.out ≡ put c.args.out.now (ToClient (spell (window_update c.args.stream c.args.own))) = puts ∙ ap (λ n. put c.args.out.now (ToClient (spell (window_update c.args.stream n)))) same in
    subst (λ (v : View). PerformsOwn setup c.args.session.now (due_on_stream c.args.stream c.args.own) c.args.out.now v balanced c.give_back_on.new.out) (sym views)
    (subst (λ (os : List Output). PerformsOwn setup c.args.session.now (due_on_stream c.args.stream c.args.own) c.args.out.now (given_on_stream c.args.session.now c.args.stream c.args.own) balanced os) (sym outs)
    (taken_on_stream setup c.args.session.now c.args.stream c.args.own some small goes c.args.out.now c.requires.goes_on free (c.requires.numbered c.args.stream row.0))))
    c.give_back_on.ensures.given c.give_back_on.ensures.put_out c.give_back_on.ensures.few

pub returns-clause-stays : goal.returns-clause-stays
returns-clause-stays c =
    on_ok c.give_back_on.result
    (λ given. subst (λ (v : View). IsReturned c.args.session.now v) (sym given)
    (returned_on_stream c.args.session.now c.args.stream c.in_ok-octets.octets (goes_back c.args.session.now.inbound c.args.stream (sym c.goes_back_on.ensures ∙ c.if-not-goes_back_on.false)).active)) c.give_back_on.ensures.given

-- they can't
pub returns-clause-over : goal.returns-clause-over
returns-clause-over c =
    let same = c.in_ok-octets.ensures.0 in
    let least = c.in_ok-octets.ensures.1 in
    let not_none = c.if-own-eq0.false in
    let some : 0 < c.args.own = omega (arith, not_none) in
    let small : c.args.own < 2147483648 = omega (arith, same, least) in
    on_over c.give_back_on.result
    (λ is setup. own_ends setup c.args.session.now c.args.stream c.args.own some small (sym c.goes_back_on.ensures ∙ c.if-not-goes_back_on.false) c.args.out.now c.give_back_on.new.out is) c.give_back_on.ensures.over
