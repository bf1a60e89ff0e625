use Rattle.std.proofs.Common.{◌≡◌, ◌<◌, true, sym, ◌∙◌, ap, subst}
use Rattle.model.specs.Logs.Event.{UpFailed}
use Rattle.model.specs.Tapes.Entry.{Happened}
use Rattle.theory_requests.specs.Lines.{find}
use Rattle.streams.specs.Asked.{is_active}
use Rattle.upstream_connections.specs.Connections.{number_of}
use Rattle.refinement.specs.View.{View, balanced}
use Rattle.refinement.specs.Bringing.{Brings}
use Rattle.event_handlers.specs.Stopping.{IsCalmed}
use Rattle.event_handlers.proofs.MidSteps.{still_rests, if_still, if_mid}
use Rattle.event_handlers.proofs.exchanges.Stills.{closed_still, given_mid}
use Rattle.event_handlers.proofs.Results.{stopped}
use Rattle.event_handlers.specs.exchanges.Giving.{closed_at, IsGivenUp, is_cut_then, replied_to}
use Rattle.event_handlers.proofs.exchanges.Closes.{count_of, found_for, if_found, idle_for, stream_active, stream_numbered, is_gone, is_gone_over}
use Rattle.event_handlers.proofs.exchanges.Idles.{idle_fails}
use Rattle.event_handlers.proofs.exchanges.hearing.fail.Goals as goal

-- ---- of an idle one

pub returns-in_default-clause-brings : goal.returns-in_default-clause-brings
returns-in_default-clause-brings c setup =
    let old : View = record { inbound = c.session.inside.inbound; offers = c.session.inside.offers; upstreams = c.session.inside.upstreams; marks = c.session.inside.marks; encoding = c.session.inside.encoder; untaken = c.session.inside.untaken } in
    let closed : record old { upstreams = c.close.new.self } ≡ closed_at c.args.k c.args.session.now = ap (λ u. let v : View = record old { upstreams = u } in v) c.close.ensures ∙ ap (closed_at c.args.k) c.session.view_is in
    let one = idle_for c.args.k c.args.session.now.upstreams.live c.served_by-served.result c.requires.opened c.served_by-served.ensures c.in_default.is in
    subst (λ (v : View). Brings setup c.args.session.now balanced c.args.out.now (Happened (UpFailed c.args.k)) v balanced c.args.out.now) (sym closed) (idle_fails setup c.args.session.now c.requires.settled.rest c.args.k one.0 one.1 one.2 c.args.out.now)

-- ---- of one that works for a stream

pub give_up-requires-clause-live : goal.give_up-requires-clause-live
give_up-requires-clause-live c =
    let r = c.requires.reached in
    let it = found_for c.args.k c.in-Some.stream c.args.session.now.upstreams.live c.served_by-served.result c.requires.opened c.served_by-served.ensures c.in-Some.is in
    ap (λ (v : View). is_active v.inbound.rows c.in-Some.stream) c.session.view_is ∙ stream_active c.args.session.now c.requires.settled.rest r.0 r.1.0 r.1.1 r.1.2 c.args.k c.in-Some.stream it

pub give_up-requires-clause-numbered : goal.give_up-requires-clause-numbered
give_up-requires-clause-numbered c =
    let r = c.requires.reached in
    let it = found_for c.args.k c.in-Some.stream c.args.session.now.upstreams.live c.served_by-served.result c.requires.opened c.served_by-served.ensures c.in-Some.is in
    stream_numbered c.args.session.now c.requires.settled.rest r.0 r.1.0 r.1.1 r.1.2 c.args.k c.in-Some.stream it c.requires.settled.numbered

pub returns-in-Some-2-clause-brings : goal.returns-in-Some-2-clause-brings
returns-in-Some-2-clause-brings c setup =
    let r = c.requires.reached in
    let it = found_for c.args.k c.in-Some.stream c.args.session.now.upstreams.live c.served_by-served.result c.requires.opened c.served_by-served.ensures c.in-Some.is in
    let few : c.in-Some.stream < 2147483648 = stream_numbered c.args.session.now c.requires.settled.rest r.0 r.1.0 r.1.1 r.1.2 c.args.k c.in-Some.stream it c.requires.settled.numbered in
    let old : View = record { inbound = c.session.inside.inbound; offers = c.session.inside.offers; upstreams = c.session.inside.upstreams; marks = c.session.inside.marks; encoding = c.session.inside.encoder; untaken = c.session.inside.untaken } in
    let closed : record old { upstreams = c.close.new.self } ≡ closed_at c.args.k c.args.session.now = ap (λ u. let v : View = record old { upstreams = u } in v) c.close.ensures ∙ ap (closed_at c.args.k) c.session.view_is in
    is_gone c.args.session.now c.requires.settled.rest c.args.k c.args.out.now setup c.in-Some.stream it c.give_up.new.session c.give_up.new.out c.in_ok-waiting.field-0 c.in-Some-2.waiting few
    (subst (λ (v : View). IsGivenUp c.in-Some.stream v c.args.out.now c.in_ok-waiting.field-0 c.give_up.new.session c.give_up.new.out) closed c.in_ok-waiting.ensures.given) (ap count_of (sym c.in-Some-2.is))

pub returns-in-None-clause-brings : goal.returns-in-None-clause-brings
returns-in-None-clause-brings c setup =
    let r = c.requires.reached in
    let it = found_for c.args.k c.in-Some.stream c.args.session.now.upstreams.live c.served_by-served.result c.requires.opened c.served_by-served.ensures c.in-Some.is in
    let few : c.in-Some.stream < 2147483648 = stream_numbered c.args.session.now c.requires.settled.rest r.0 r.1.0 r.1.1 r.1.2 c.args.k c.in-Some.stream it c.requires.settled.numbered in
    let old : View = record { inbound = c.session.inside.inbound; offers = c.session.inside.offers; upstreams = c.session.inside.upstreams; marks = c.session.inside.marks; encoding = c.session.inside.encoder; untaken = c.session.inside.untaken } in
    let closed : record old { upstreams = c.close.new.self } ≡ closed_at c.args.k c.args.session.now = ap (λ u. let v : View = record old { upstreams = u } in v) c.close.ensures ∙ ap (closed_at c.args.k) c.session.view_is in
    is_gone c.args.session.now c.requires.settled.rest c.args.k c.args.out.now setup c.in-Some.stream it c.give_up.new.session c.give_up.new.out c.in_ok-waiting.field-0 0 few
    (subst (λ (v : View). IsGivenUp c.in-Some.stream v c.args.out.now c.in_ok-waiting.field-0 c.give_up.new.session c.give_up.new.out) closed c.in_ok-waiting.ensures.given) (ap count_of (sym c.in-None.is))

pub returns-in_err-waiting-clause-over : goal.returns-in_err-waiting-clause-over
returns-in_err-waiting-clause-over c =
    let it = found_for c.args.k c.in-Some.stream c.args.session.now.upstreams.live c.served_by-served.result c.requires.opened c.served_by-served.ensures c.in-Some.is in
    let old : View = record { inbound = c.session.inside.inbound; offers = c.session.inside.offers; upstreams = c.session.inside.upstreams; marks = c.session.inside.marks; encoding = c.session.inside.encoder; untaken = c.session.inside.untaken } in
    let closed : record old { upstreams = c.close.new.self } ≡ closed_at c.args.k c.args.session.now = ap (λ u. let v : View = record old { upstreams = u } in v) c.close.ensures ∙ ap (closed_at c.args.k) c.session.view_is in
    stopped c.from_residual.result c.in_err-waiting.field-0.0 c.from_residual.ensures.1
    (λ is setup.
    is_gone_over c.args.session.now c.requires.settled.rest c.args.k c.args.out.now setup c.in-Some.stream it c.give_up.new.out
    (subst (λ (v : View). (is_cut_then c.in-Some.stream v ≡ true) × IsCalmed (replied_to c.in-Some.stream v) c.args.out.now c.give_up.new.out) closed is)) c.in_err-waiting.ensures.over

-- ---- the gateway is in the midst of a step about its stream then

pub returns-in_default-clause-mid : goal.returns-in_default-clause-mid
returns-in_default-clause-mid c =
    let old : View = record { inbound = c.session.inside.inbound; offers = c.session.inside.offers; upstreams = c.session.inside.upstreams; marks = c.session.inside.marks; encoding = c.session.inside.encoder; untaken = c.session.inside.untaken } in
    let closed : record old { upstreams = c.close.new.self } ≡ closed_at c.args.k c.args.session.now = ap (λ u. let v : View = record old { upstreams = u } in v) c.close.ensures ∙ ap (closed_at c.args.k) c.session.view_is in
    let still = closed_still c.args.session.now (record old { upstreams = c.close.new.self }) (still_rests c.args.session.now c.requires.settled.rest c.requires.settled.numbered) c.args.k closed in
    if_still (find number_of c.args.k c.args.session.now.upstreams.live) (record old { upstreams = c.close.new.self }) still

pub returns-in-Some-2-clause-mid : goal.returns-in-Some-2-clause-mid
returns-in-Some-2-clause-mid c =
    let old : View = record { inbound = c.session.inside.inbound; offers = c.session.inside.offers; upstreams = c.session.inside.upstreams; marks = c.session.inside.marks; encoding = c.session.inside.encoder; untaken = c.session.inside.untaken } in
    let closed : record old { upstreams = c.close.new.self } ≡ closed_at c.args.k c.args.session.now = ap (λ u. let v : View = record old { upstreams = u } in v) c.close.ensures ∙ ap (closed_at c.args.k) c.session.view_is in
    let still = closed_still c.args.session.now (record old { upstreams = c.close.new.self }) (still_rests c.args.session.now c.requires.settled.rest c.requires.settled.numbered) c.args.k closed in
    if_mid (find number_of c.args.k c.args.session.now.upstreams.live) c.in-Some.stream c.give_up.new.session (if_found c.args.k c.in-Some.stream c.args.session.now.upstreams.live (found_for c.args.k c.in-Some.stream c.args.session.now.upstreams.live c.served_by-served.result c.requires.opened c.served_by-served.ensures c.in-Some.is))
    (given_mid c.in-Some.stream (record old { upstreams = c.close.new.self }) c.give_up.new.session c.args.out.now c.give_up.new.out c.in_ok-waiting.field-0 still c.in_ok-waiting.ensures.given)

pub returns-in-None-clause-mid : goal.returns-in-None-clause-mid
returns-in-None-clause-mid c =
    let old : View = record { inbound = c.session.inside.inbound; offers = c.session.inside.offers; upstreams = c.session.inside.upstreams; marks = c.session.inside.marks; encoding = c.session.inside.encoder; untaken = c.session.inside.untaken } in
    let closed : record old { upstreams = c.close.new.self } ≡ closed_at c.args.k c.args.session.now = ap (λ u. let v : View = record old { upstreams = u } in v) c.close.ensures ∙ ap (closed_at c.args.k) c.session.view_is in
    let still = closed_still c.args.session.now (record old { upstreams = c.close.new.self }) (still_rests c.args.session.now c.requires.settled.rest c.requires.settled.numbered) c.args.k closed in
    if_mid (find number_of c.args.k c.args.session.now.upstreams.live) c.in-Some.stream c.give_up.new.session (if_found c.args.k c.in-Some.stream c.args.session.now.upstreams.live (found_for c.args.k c.in-Some.stream c.args.session.now.upstreams.live c.served_by-served.result c.requires.opened c.served_by-served.ensures c.in-Some.is))
    (given_mid c.in-Some.stream (record old { upstreams = c.close.new.self }) c.give_up.new.session c.args.out.now c.give_up.new.out c.in_ok-waiting.field-0 still c.in_ok-waiting.ensures.given)
