use Rattle.std.proofs.Common.{◌<◌, ap, sym, ◌∙◌, subst}
use Rattle.upstream_response.specs.declared.answer.AnswerEnd.{AnswerEnd}
use Rattle.model.specs.Logs.Event.{UpEnd}
use Rattle.model.specs.Tapes.Entry.{Happened}
use Rattle.theory_requests.specs.Lines.{find}
use Rattle.streams.specs.Asked.{is_active}
use Rattle.upstream_connections.specs.Connections.{number_of}
use Rattle.refinement.specs.View.{View, balanced}
use Rattle.refinement.specs.Bringing.{Brings}
use Rattle.event_handlers.specs.exchanges.Giving.{closed_at}
use Rattle.event_handlers.specs.exchanges.Taking.{IsEndTaken}
use Rattle.event_handlers.proofs.MidSteps.{still_rests, if_still, if_mid}
use Rattle.event_handlers.proofs.exchanges.Stills.{closed_still, end_still, end_finished_still, abandoned_mid}
use Rattle.event_handlers.proofs.Results.{if_ok, on_over}
use Rattle.event_handlers.proofs.exchanges.Closes.{if_then, found_for, if_found, idle_for, stream_active, stream_numbered, stream_kept, cut_short, cut_short_over}
use Rattle.event_handlers.proofs.exchanges.Finishes.{end_finished, end_open}
use Rattle.event_handlers.proofs.exchanges.Idles.{idle_ends}
use Rattle.event_handlers.proofs.exchanges.hearing.end.Goals as goal

-- ---- of an idle one

pub returns-in_default-clause-brings : goal.returns-in_default-clause-brings
returns-in_default-clause-brings c setup =
    let one = idle_for c.args.k c.args.session.now.upstreams.live c.served_by.result c.requires.opened c.served_by.ensures c.in_default.is in
    subst (λ (v : View). Brings setup c.args.session.now balanced c.args.out.now (Happened (UpEnd c.args.k)) v balanced c.close.new.out) (sym c.in_ok-close.ensures.kept)
    (subst (Brings setup c.args.session.now balanced c.args.out.now (Happened (UpEnd c.args.k)) (closed_at c.args.k c.args.session.now) balanced) (sym c.in_ok-close.ensures.puts)
    (idle_ends setup c.args.session.now c.requires.settled.rest c.args.k one.0 one.1 one.2 c.args.out.now))

-- ---- of one that works for a stream

pub take_end-requires-clause-of : goal.take_end-requires-clause-of
take_end-requires-clause-of c =
    if_found c.args.k c.in-Some.stream c.args.session.now.upstreams.live (found_for c.args.k c.in-Some.stream c.args.session.now.upstreams.live c.served_by.result c.requires.opened c.served_by.ensures c.in-Some.is)

pub take_end-requires-clause-kept : goal.take_end-requires-clause-kept
take_end-requires-clause-kept c =
    let r = c.requires.reached in
    let it = found_for c.args.k c.in-Some.stream c.args.session.now.upstreams.live c.served_by.result c.requires.opened c.served_by.ensures c.in-Some.is in
    stream_kept c.args.session.now c.requires.settled.rest r.0 r.1.0 r.1.1 r.1.2 c.args.k c.in-Some.stream it

pub abandon-requires-clause-live : goal.abandon-requires-clause-live
abandon-requires-clause-live c =
    let r = c.requires.reached in
    let it = found_for c.args.k c.in-Some.stream c.args.session.now.upstreams.live c.served_by.result c.requires.opened c.served_by.ensures c.in-Some.is in
    ap (λ (v : View). is_active v.inbound.rows c.in-Some.stream) c.in_ok-take_end.ensures.is ∙ stream_active c.args.session.now c.requires.settled.rest r.0 r.1.0 r.1.1 r.1.2 c.args.k c.in-Some.stream it

pub abandon-requires-clause-numbered : goal.abandon-requires-clause-numbered
abandon-requires-clause-numbered c =
    let r = c.requires.reached in
    let it = found_for c.args.k c.in-Some.stream c.args.session.now.upstreams.live c.served_by.result c.requires.opened c.served_by.ensures c.in-Some.is in
    stream_numbered c.args.session.now c.requires.settled.rest r.0 r.1.0 r.1.1 r.1.2 c.args.k c.in-Some.stream it c.requires.settled.numbered

-- its response is whole with it
pub finish-requires : goal.finish-requires
finish-requires c = record { opened = end_open c.args.session.now c.args.k c.in_ok-take_end.field-0 c.take_end.new.session c.in_ok-take_end.ensures }

pub returns-in_ok-finish-in-Complete-clause-brings : goal.returns-in_ok-finish-in-Complete-clause-brings
returns-in_ok-finish-in-Complete-clause-brings c setup =
    let it = found_for c.args.k c.in-Some.stream c.args.session.now.upstreams.live c.served_by.result c.requires.opened c.served_by.ensures c.in-Some.is in
    end_finished c.args.session.now c.requires.settled.rest c.args.k c.args.out.now setup c.in-Some.stream it c.take_end.new.session c.finish.new.session c.finish.new.out (subst (λ (h : AnswerEnd). IsEndTaken c.args.session.now c.args.k h c.take_end.new.session) c.in-Complete.is c.in_ok-take_end.ensures) c.in_ok-finish-in-Complete.ensures.kept c.in_ok-finish-in-Complete.ensures.puts

-- it is cut short
pub returns-in-Short-clause-brings : goal.returns-in-Short-clause-brings
returns-in-Short-clause-brings c =
    let r = c.requires.reached in
    let it = found_for c.args.k c.in-Some.stream c.args.session.now.upstreams.live c.served_by.result c.requires.opened c.served_by.ensures c.in-Some.is in
    let few : c.in-Some.stream < 2147483648 = stream_numbered c.args.session.now c.requires.settled.rest r.0 r.1.0 r.1.1 r.1.2 c.args.k c.in-Some.stream it c.requires.settled.numbered in
    if_ok c.abandon.result
    (λ back given setup. cut_short c.args.session.now c.requires.settled.rest c.args.k c.args.out.now setup c.in-Some.stream it c.take_end.new.session c.abandon.new.session c.abandon.new.out back (subst (λ (h : AnswerEnd). IsEndTaken c.args.session.now c.args.k h c.take_end.new.session) c.in-Short.is c.in_ok-take_end.ensures) few given)
    c.abandon.ensures.given

pub returns-in-Short-clause-over : goal.returns-in-Short-clause-over
returns-in-Short-clause-over c =
    let it = found_for c.args.k c.in-Some.stream c.args.session.now.upstreams.live c.served_by.result c.requires.opened c.served_by.ensures c.in-Some.is in
    on_over c.abandon.result
    (λ is setup. cut_short_over c.args.session.now c.requires.settled.rest c.args.k c.args.out.now setup c.in-Some.stream it c.take_end.new.session c.abandon.new.out (subst (λ (h : AnswerEnd). IsEndTaken c.args.session.now c.args.k h c.take_end.new.session) c.in-Short.is c.in_ok-take_end.ensures) is)
    c.abandon.ensures.over

-- ---- the gateway is in the midst of a step about its stream then

pub returns-in_default-clause-mid : goal.returns-in_default-clause-mid
returns-in_default-clause-mid c = if_still (find number_of c.args.k c.args.session.now.upstreams.live) c.close.new.session (closed_still c.args.session.now c.close.new.session (still_rests c.args.session.now c.requires.settled.rest c.requires.settled.numbered) c.args.k c.in_ok-close.ensures.kept)

pub returns-in_ok-finish-in-Complete-clause-mid : goal.returns-in_ok-finish-in-Complete-clause-mid
returns-in_ok-finish-in-Complete-clause-mid c =
    if_still (find number_of c.args.k c.args.session.now.upstreams.live) c.finish.new.session
    (end_finished_still c.args.session.now c.take_end.new.session c.finish.new.session (still_rests c.args.session.now c.requires.settled.rest c.requires.settled.numbered) c.args.k (subst (λ (h : AnswerEnd). IsEndTaken c.args.session.now c.args.k h c.take_end.new.session) c.in-Complete.is c.in_ok-take_end.ensures) c.in_ok-finish-in-Complete.ensures.kept)

pub returns-in-Short-clause-mid : goal.returns-in-Short-clause-mid
returns-in-Short-clause-mid c =
    if_then c.abandon.result
    (λ back given.
    if_mid (find number_of c.args.k c.args.session.now.upstreams.live) c.in-Some.stream c.abandon.new.session (if_found c.args.k c.in-Some.stream c.args.session.now.upstreams.live (found_for c.args.k c.in-Some.stream c.args.session.now.upstreams.live c.served_by.result c.requires.opened c.served_by.ensures c.in-Some.is))
    (abandoned_mid c.args.k c.in-Some.stream c.take_end.new.session c.abandon.new.session c.args.out.now c.abandon.new.out back
    (end_still c.args.session.now c.take_end.new.session (still_rests c.args.session.now c.requires.settled.rest c.requires.settled.numbered) c.args.k c.in_ok-take_end.field-0 c.in_ok-take_end.ensures) given))
    c.abandon.ensures.given
