use Rattle.std.proofs.Common.{◌≡◌, ℕ, true, ◌<◌, ◌+◌, ◌^◌, List, length, codes, refl, sym, ◌∙◌, ap, subst, arith}
use Rattle.std.specs.Prelude.{Option, is_some, IfSome}
use Rattle.std.proofs.lemmas.Result.{on_ok_weaker}
use Rattle.model.specs.Causes.{is_front_of}
use Rattle.upstream_connections.specs.Requests.{due_on, stage_of}
use Rattle.upstream_connections.specs.Connections.{Connection, number_of}
use Rattle.theory_requests.specs.Lines.{find}
use Rattle.upstream_response.specs.Waiting.{passing_in}
use Rattle.window_credit.specs.Sides.{find as find_side}
use Rattle.window_credit.specs.Sides.{Side, is_above_all}
use Rattle.refinement.specs.View.{View, balanced}
use Rattle.refinement.specs.Rest.{told_view}
use Rattle.refinement.specs.Bringing.{PerformsOwn}
use Rattle.event_handlers.specs.MidStep.{IsHandedOn}
use Rattle.event_handlers.proofs.MidSteps.{handed_as}
use Rattle.event_handlers.specs.exchanges.Opening.{with_side_over, IsLast}
use Rattle.event_handlers.proofs.exchanges.Newest.{past_over, last_unmarked}
use Rattle.event_handlers.proofs.exchanges.Reuses.{open_there, above_them, served_here, within_them, room_then, calls_use, uses_but}
use Rattle.event_handlers.proofs.exchanges.opening.reuse.Goals as goal

pub last_of-from-requires : goal.last_of-from-requires
last_of-from-requires c =
    let r = c.requires.reached in
    ap (λ (o : Option Connection). is_some o) (open_there r.0 c.args.session.now r.2 r.3 c.args.number c.args.request.stream c.args.request.text (stage_of c.args.request.rest) r.4.0 r.4.1 r.4.2).1

pub put-requires : goal.put-requires
put-requires c =
    let r = c.requires.reached in
    let there = open_there r.0 c.args.session.now r.2 r.3 c.args.number c.args.request.stream c.args.request.text (stage_of c.args.request.rest) r.4.0 r.4.1 r.4.2 in
    let last : IsLast there.0 c.last_of-from.result.0 c.last_of-from.result.1 = subst (λ (o : Option Connection). IfSome o (λ x. IsLast x c.last_of-from.result.0 c.last_of-from.result.1)) there.1 c.last_of-from.ensures in
    room_then c.args.number c.args.request.stream (length c.as_slice.result.now) c.asks_for_head-to_head.result c.args.passing (stage_of c.args.request.rest) c.session.inside.upstreams c.give.new.self there.0
    (ap (λ (v : View). find number_of c.args.number v.upstreams.live) c.session.view_is ∙ there.1) c.in_ok-give.ensures.given
    (subst (λ n. n + length c.as_slice.result.now < 2 ^ 64) last.out c.in-Some.ensures.0)

pub go_on_counting-requires-clause-above : goal.go_on_counting-requires-clause-above
go_on_counting-requires-clause-above c streaming =
    let r = c.requires.reached in
    ap (λ (v : View). is_above_all c.args.request.stream v.marks) c.session.view_is
    ∙ above_them r.0 c.args.session.now r.2 r.3 c.args.number c.args.request.stream c.args.request.text (stage_of c.args.request.rest) r.4.0 r.4.1 r.4.2 (sym r.1.passing ∙ streaming)

pub go_on_counting-requires-clause-within : goal.go_on_counting-requires-clause-within
go_on_counting-requires-clause-within c =
    let r = c.requires.reached in
    let there = open_there r.0 c.args.session.now r.2 r.3 c.args.number c.args.request.stream c.args.request.text (stage_of c.args.request.rest) r.4.0 r.4.1 r.4.2 in
    let last : IsLast there.0 c.last_of-from.result.0 c.last_of-from.result.1 = subst (λ (o : Option Connection). IfSome o (λ x. IsLast x c.last_of-from.result.0 c.last_of-from.result.1)) there.1 c.last_of-from.ensures in
    let le = within_them r.0 c.args.session.now r.2 r.3 c.args.number c.args.request.stream c.args.request.text (stage_of c.args.request.rest) r.4.0 r.4.1 r.4.2 there.0 there.1 in
    let sum : c.in-Some.put_out ≡ c.last_of-from.result.1.put_out + length c.as_slice.result.now = c.in-Some.ensures.1 in
    let out : c.last_of-from.result.1.put_out ≡ there.0.out = last.out in
    let took : c.last_of-from.result.1.taken ≡ there.0.took = last.took in
    omega (arith, le, sum, out, took)

pub returns-clause-performs : goal.returns-clause-performs
returns-clause-performs c =
    let r = c.requires.reached in
    let old : View = record { inbound = c.session.inside.inbound; offers = c.session.inside.offers; upstreams = c.session.inside.upstreams; marks = c.session.inside.marks; encoding = c.session.inside.encoder; untaken = c.session.inside.untaken } in
    let there = open_there r.0 c.args.session.now r.2 r.3 c.args.number c.args.request.stream c.args.request.text (stage_of c.args.request.rest) r.4.0 r.4.1 r.4.2 in
    let last : IsLast there.0 c.last_of-from.result.0 c.last_of-from.result.1 = subst (λ (o : Option Connection). IfSome o (λ x. IsLast x c.last_of-from.result.0 c.last_of-from.result.1)) there.1 c.last_of-from.ensures in
    let sides : List Side = with_side_over (passing_in c.args.passing) c.last_of-from.result.0 c.args.request.stream c.args.number c.in-Some.put_out c.last_of-from.result.1.taken old.marks in
    on_ok_weaker c.send_up.result
    (λ puts setup fresh back passed.
    subst (λ (v : View). PerformsOwn setup c.args.session.now (record balanced { due = due_on c.args.number c.args.request; fresh = fresh; shared = back }) c.args.out.now v (record balanced { fresh = fresh; shared = back }) c.send_up.new.self) (sym c.in_ok-go_on_counting.ensures)
    (subst (λ (v : View). PerformsOwn setup v (record balanced { due = due_on c.args.number c.args.request; fresh = fresh; shared = back }) c.args.out.now (record old { upstreams = c.put.new.self; marks = sides }) (record balanced { fresh = fresh; shared = back }) c.send_up.new.self) c.session.view_is
    (calls_use old c.args.number c.args.request.stream c.last_of-from.result.0 c.in-Some.put_out c.last_of-from.result.1.taken c.args.request.text (stage_of c.args.request.rest) c.asks_for_head-to_head.result c.args.passing c.give.new.self c.put.new.self sides (length c.as_slice.result.now) c.args.out.now c.send_up.new.self
    there.0 (ap (λ (v : View). find number_of c.args.number v.upstreams.live) c.session.view_is ∙ there.1) last.stream_is (c.in-Some.ensures.1 ∙ ap (λ n. n + length c.as_slice.result.now) last.out) last.took
    (c.asks_for_head-to_head.ensures ∙ ap (λ x. is_front_of (codes "HEAD ") x) c.as_slice-2.ensures) c.give.ensures.stands (ap (λ (x : List ℕ). length x) c.as_slice.ensures) c.in_ok-give.ensures.given c.put.ensures refl puts setup fresh back passed)))
    c.send_up.ensures

pub returns-clause-handed : goal.returns-clause-handed
returns-clause-handed c =
    let r = c.requires.reached in
    let old : View = record { inbound = c.session.inside.inbound; offers = c.session.inside.offers; upstreams = c.session.inside.upstreams; marks = c.session.inside.marks; encoding = c.session.inside.encoder; untaken = c.session.inside.untaken } in
    let sides : List Side = with_side_over (passing_in c.args.passing) c.last_of-from.result.0 c.args.request.stream c.args.number c.in-Some.put_out c.last_of-from.result.1.taken old.marks in
    let served : (told_view old).served c.args.request.stream ≡ true =
    ap (λ (v : View). (told_view v).served c.args.request.stream) c.session.view_is
    ∙ served_here r.0 c.args.session.now r.2 r.3 c.args.number c.args.request.stream c.args.request.text (stage_of c.args.request.rest) r.4.0 r.4.1 r.4.2 in
    on_ok_weaker c.send_up.result
    (λ puts.
    subst (λ (v : View). IsHandedOn c.args.session.now v) (sym c.in_ok-go_on_counting.ensures)
    (subst (λ (v : View). IsHandedOn v (record old { upstreams = c.put.new.self; marks = sides })) c.session.view_is
    (handed_as old c.put.new.self sides
    (uses_but old c.args.number c.args.request.stream (length c.as_slice.result.now) c.asks_for_head-to_head.result c.args.passing (stage_of c.args.request.rest) c.give.new.self c.put.new.self sides served c.in_ok-give.ensures.given c.put.ensures)
    (λ was. past_over (passing_in c.args.passing) old.inbound.last c.last_of-from.result.0 c.args.request.stream c.args.number c.in-Some.put_out c.last_of-from.result.1.taken old.marks
    (ap (λ (v : View). find_side v.inbound.last v.marks) c.session.view_is ∙ last_unmarked r.0 c.args.session.now r.2 r.3 c.args.number c.args.request.stream c.args.request.text (stage_of c.args.request.rest) r.4.0 r.4.1 r.4.2)))))
    c.send_up.ensures
