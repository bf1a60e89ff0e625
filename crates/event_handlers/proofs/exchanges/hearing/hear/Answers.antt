use Rattle.std.proofs.Common.{◌<◌, ap, sym, ◌∙◌, subst}
use Rattle.upstream_response.specs.declared.answer.Heard.{Heard}
use Rattle.model.specs.Logs.Event.{Up}
use Rattle.model.specs.Tapes.Entry.{Happened}
use Rattle.theory_requests.specs.Lines.{find}
use Rattle.theory_requests.specs.Lines.Heard.{Finished}
use Rattle.streams.specs.Asked.{is_active}
use Rattle.upstream_connections.specs.Connections.{number_of}
use Rattle.upstream_connections.specs.Progress.{heard_of}
use Rattle.refinement.specs.View.{View, balanced}
use Rattle.refinement.specs.Bringing.{Brings}
use Rattle.event_handlers.specs.exchanges.Finishing.{closed_by}
use Rattle.event_handlers.specs.exchanges.Taking.{AreTaken}
use Rattle.event_handlers.proofs.MidSteps.{still_rests, if_still, if_mid}
use Rattle.event_handlers.proofs.exchanges.Stills.{closed_by_still, taken_still, taken_finished_still, abandoned_mid}
use Rattle.event_handlers.proofs.Results.{if_ok, on_over}
use Rattle.event_handlers.proofs.exchanges.Closes.{if_then, found_for, if_found, idle_for, stream_active, stream_numbered, stream_kept, goes_on, fails, fails_over}
use Rattle.event_handlers.proofs.exchanges.Finishes.{keepable_finished, whole_finished, taken_open}
use Rattle.event_handlers.proofs.exchanges.Idles.{idle_hears}
use Rattle.event_handlers.proofs.exchanges.hearing.hear.Goals as goal

-- ---- of an idle one

pub returns-in_default-clause-brings : goal.returns-in_default-clause-brings
returns-in_default-clause-brings c setup keeps =
    let one = idle_for c.args.k c.args.session.now.upstreams.live c.served_by.result c.requires.opened c.served_by.ensures c.in_default.is in
    subst (λ (v : View). Brings setup c.args.session.now balanced c.args.out.now (Happened (Up c.args.k c.args.octets.now)) v balanced c.hear_idle.new.out) (sym c.in_ok-hear_idle.ensures.kept)
    (subst (Brings setup c.args.session.now balanced c.args.out.now (Happened (Up c.args.k c.args.octets.now)) (closed_by c.args.octets.now c.args.k c.args.session.now) balanced) (sym c.in_ok-hear_idle.ensures.puts)
    (idle_hears setup c.args.session.now c.requires.settled.rest c.args.k one.0 one.1 one.2 c.args.out.now c.args.octets.now c.requires.short))

-- ---- of one that works for a stream

pub take_octets-requires-clause-of : goal.take_octets-requires-clause-of
take_octets-requires-clause-of c =
    if_found c.args.k c.in-Some.stream c.args.session.now.upstreams.live (found_for c.args.k c.in-Some.stream c.args.session.now.upstreams.live c.served_by.result c.requires.opened c.served_by.ensures c.in-Some.is)

pub take_octets-requires-clause-kept : goal.take_octets-requires-clause-kept
take_octets-requires-clause-kept c =
    let r = c.requires.reached in
    let it = found_for c.args.k c.in-Some.stream c.args.session.now.upstreams.live c.served_by.result c.requires.opened c.served_by.ensures c.in-Some.is in
    stream_kept c.args.session.now c.requires.settled.rest r.0 r.2.0 r.2.1 r.2.2 c.args.k c.in-Some.stream it

pub abandon-requires-clause-live : goal.abandon-requires-clause-live
abandon-requires-clause-live c =
    let r = c.requires.reached in
    let it = found_for c.args.k c.in-Some.stream c.args.session.now.upstreams.live c.served_by.result c.requires.opened c.served_by.ensures c.in-Some.is in
    ap (λ (v : View). is_active v.inbound.rows c.in-Some.stream) c.in_ok-take_octets.ensures.is ∙ stream_active c.args.session.now c.requires.settled.rest r.0 r.2.0 r.2.1 r.2.2 c.args.k c.in-Some.stream it

pub abandon-requires-clause-numbered : goal.abandon-requires-clause-numbered
abandon-requires-clause-numbered c =
    let r = c.requires.reached in
    let it = found_for c.args.k c.in-Some.stream c.args.session.now.upstreams.live c.served_by.result c.requires.opened c.served_by.ensures c.in-Some.is in
    stream_numbered c.args.session.now c.requires.settled.rest r.0 r.2.0 r.2.1 r.2.2 c.args.k c.in-Some.stream it c.requires.settled.numbered

-- its answer goes on
pub returns-in-GoesOn-clause-brings : goal.returns-in-GoesOn-clause-brings
returns-in-GoesOn-clause-brings c setup keeps =
    let it = found_for c.args.k c.in-Some.stream c.args.session.now.upstreams.live c.served_by.result c.requires.opened c.served_by.ensures c.in-Some.is in
    goes_on c.args.session.now c.requires.settled.rest c.args.k c.args.out.now setup c.in-Some.stream it c.args.octets.now c.requires.short c.take_octets.new.session (subst (λ (h : Heard). AreTaken c.args.session.now c.args.k c.args.octets.now h c.take_octets.new.session) c.in-GoesOn.is c.in_ok-take_octets.ensures)

-- it is whole
pub finish-requires : goal.finish-requires
finish-requires c = record { opened = taken_open c.args.session.now c.args.k c.args.octets.now c.in_ok-take_octets.field-0 c.take_octets.new.session c.in_ok-take_octets.ensures }

pub finish-requires-in-Finished : goal.finish-requires-in-Finished
finish-requires-in-Finished c = record { opened = taken_open c.args.session.now c.args.k c.args.octets.now c.in_ok-take_octets.field-0 c.take_octets.new.session c.in_ok-take_octets.ensures }

pub returns-in_ok-finish-in-Keepable-clause-brings : goal.returns-in_ok-finish-in-Keepable-clause-brings
returns-in_ok-finish-in-Keepable-clause-brings c setup keeps =
    let it = found_for c.args.k c.in-Some.stream c.args.session.now.upstreams.live c.served_by.result c.requires.opened c.served_by.ensures c.in-Some.is in
    keepable_finished c.args.session.now c.requires.settled.rest c.args.k c.args.out.now setup c.in-Some.stream it c.take_octets.new.session c.finish.new.session c.finish.new.out c.args.octets.now c.requires.short (heard_of c.verdict_for-verdict.result) c.args.keep c.args.most_idle
    (subst (λ (h : Heard). AreTaken c.args.session.now c.args.k c.args.octets.now h c.take_octets.new.session) c.in-Keepable.is c.in_ok-take_octets.ensures) c.verdict_for-verdict.ensures keeps c.in_ok-finish-in-Keepable.ensures.kept c.in_ok-finish-in-Keepable.ensures.puts

-- and the connection isn't kept
pub returns-in_ok-finish-in-Finished-clause-brings : goal.returns-in_ok-finish-in-Finished-clause-brings
returns-in_ok-finish-in-Finished-clause-brings c setup keeps =
    let it = found_for c.args.k c.in-Some.stream c.args.session.now.upstreams.live c.served_by.result c.requires.opened c.served_by.ensures c.in-Some.is in
    whole_finished c.args.session.now c.requires.settled.rest c.args.k c.args.out.now setup c.in-Some.stream it c.take_octets.new.session c.finish-in-Finished.new.session c.finish-in-Finished.new.out c.args.octets.now c.requires.short
    (subst (λ (h : Heard). AreTaken c.args.session.now c.args.k c.args.octets.now h c.take_octets.new.session) c.in-Finished.is c.in_ok-take_octets.ensures) c.in_ok-finish-in-Finished.ensures.kept c.in_ok-finish-in-Finished.ensures.puts

-- it fails
pub returns-in-Failed-clause-brings : goal.returns-in-Failed-clause-brings
returns-in-Failed-clause-brings c =
    let r = c.requires.reached in
    let it = found_for c.args.k c.in-Some.stream c.args.session.now.upstreams.live c.served_by.result c.requires.opened c.served_by.ensures c.in-Some.is in
    let few : c.in-Some.stream < 2147483648 = stream_numbered c.args.session.now c.requires.settled.rest r.0 r.2.0 r.2.1 r.2.2 c.args.k c.in-Some.stream it c.requires.settled.numbered in
    if_ok c.abandon.result
    (λ back given setup keeps. fails c.args.session.now c.requires.settled.rest c.args.k c.args.out.now setup c.in-Some.stream it c.args.octets.now c.requires.short c.take_octets.new.session c.abandon.new.session c.abandon.new.out back (subst (λ (h : Heard). AreTaken c.args.session.now c.args.k c.args.octets.now h c.take_octets.new.session) c.in-Failed.is c.in_ok-take_octets.ensures) few given)
    c.abandon.ensures.given

pub returns-in-Failed-clause-over : goal.returns-in-Failed-clause-over
returns-in-Failed-clause-over c =
    let it = found_for c.args.k c.in-Some.stream c.args.session.now.upstreams.live c.served_by.result c.requires.opened c.served_by.ensures c.in-Some.is in
    on_over c.abandon.result
    (λ is setup keeps. fails_over c.args.session.now c.requires.settled.rest c.args.k c.args.out.now setup c.in-Some.stream it c.args.octets.now c.requires.short c.take_octets.new.session c.abandon.new.out (subst (λ (h : Heard). AreTaken c.args.session.now c.args.k c.args.octets.now h c.take_octets.new.session) c.in-Failed.is c.in_ok-take_octets.ensures) is)
    c.abandon.ensures.over

-- ---- the gateway is in the midst of a step about its stream then

pub returns-in_default-clause-mid : goal.returns-in_default-clause-mid
returns-in_default-clause-mid c = if_still (find number_of c.args.k c.args.session.now.upstreams.live) c.hear_idle.new.session (closed_by_still c.args.session.now c.hear_idle.new.session (still_rests c.args.session.now c.requires.settled.rest c.requires.settled.numbered) c.args.k c.args.octets.now c.in_ok-hear_idle.ensures.kept)

pub returns-in-GoesOn-clause-mid : goal.returns-in-GoesOn-clause-mid
returns-in-GoesOn-clause-mid c = if_still (find number_of c.args.k c.args.session.now.upstreams.live) c.take_octets.new.session (taken_still c.args.session.now c.take_octets.new.session (still_rests c.args.session.now c.requires.settled.rest c.requires.settled.numbered) c.args.k c.args.octets.now c.in_ok-take_octets.field-0 c.in_ok-take_octets.ensures)

pub returns-in_ok-finish-in-Keepable-clause-mid : goal.returns-in_ok-finish-in-Keepable-clause-mid
returns-in_ok-finish-in-Keepable-clause-mid c =
    if_still (find number_of c.args.k c.args.session.now.upstreams.live) c.finish.new.session
    (taken_finished_still c.args.session.now c.take_octets.new.session c.finish.new.session (still_rests c.args.session.now c.requires.settled.rest c.requires.settled.numbered) c.args.most_idle c.args.k c.args.octets.now c.in_ok-take_octets.field-0 (heard_of c.verdict_for-verdict.result) c.in_ok-take_octets.ensures c.in_ok-finish-in-Keepable.ensures.kept)

pub returns-in_ok-finish-in-Finished-clause-mid : goal.returns-in_ok-finish-in-Finished-clause-mid
returns-in_ok-finish-in-Finished-clause-mid c =
    if_still (find number_of c.args.k c.args.session.now.upstreams.live) c.finish-in-Finished.new.session
    (taken_finished_still c.args.session.now c.take_octets.new.session c.finish-in-Finished.new.session (still_rests c.args.session.now c.requires.settled.rest c.requires.settled.numbered) 0 c.args.k c.args.octets.now c.in_ok-take_octets.field-0 Finished c.in_ok-take_octets.ensures c.in_ok-finish-in-Finished.ensures.kept)

pub returns-in-Failed-clause-mid : goal.returns-in-Failed-clause-mid
returns-in-Failed-clause-mid c =
    if_then c.abandon.result
    (λ back given.
    if_mid (find number_of c.args.k c.args.session.now.upstreams.live) c.in-Some.stream c.abandon.new.session (if_found c.args.k c.in-Some.stream c.args.session.now.upstreams.live (found_for c.args.k c.in-Some.stream c.args.session.now.upstreams.live c.served_by.result c.requires.opened c.served_by.ensures c.in-Some.is))
    (abandoned_mid c.args.k c.in-Some.stream c.take_octets.new.session c.abandon.new.session c.args.out.now c.abandon.new.out back
    (taken_still c.args.session.now c.take_octets.new.session (still_rests c.args.session.now c.requires.settled.rest c.requires.settled.numbered) c.args.k c.args.octets.now c.in_ok-take_octets.field-0 c.in_ok-take_octets.ensures) given))
    c.abandon.ensures.given
