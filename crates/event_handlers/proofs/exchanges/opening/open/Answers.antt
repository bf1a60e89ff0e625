use Rattle.std.proofs.Common.{◌≡◌, ℕ, true, ◌<◌, List, length, codes, refl, sym, ◌∙◌, ap, subst}
use Rattle.std.proofs.lemmas.Result.{on_ok_weaker}
use Rattle.model.specs.Causes.{is_front_of}
use Rattle.model.specs.Limits.{most_streams}
use Rattle.upstream_connections.specs.Requests.{due_for, stage_of}
use Rattle.upstream_response.specs.Waiting.{passing_in}
use Rattle.window_credit.specs.Sides.{Side, is_above_all}
use Rattle.refinement.specs.View.{View, balanced}
use Rattle.refinement.specs.Rest.{told_view}
use Rattle.refinement.specs.Bringing.{PerformsOwn}
use Rattle.event_handlers.specs.MidStep.{IsHandedOn}
use Rattle.event_handlers.proofs.MidSteps.{handed_as}
use Rattle.event_handlers.specs.exchanges.Opening.{with_side}
use Rattle.event_handlers.proofs.exchanges.Newest.{past_opened}
use Rattle.event_handlers.proofs.exchanges.Opens.{above, room_for_one, stream_served, opens_but, calls_perform}
use Rattle.event_handlers.proofs.exchanges.opening.open.Goals as goal

pub open-requires : goal.open-requires
open-requires c =
    let r = c.requires.reached in
    subst (λ (v : View). v.upstreams.count < most_streams) (sym c.session.view_is)
    (room_for_one r.0 c.args.session.now r.2 r.3 c.args.request.stream c.args.request.route c.args.request.text (stage_of c.args.request.rest) r.4.0 r.4.1 r.4.2)

pub begin_counting-requires : goal.begin_counting-requires
begin_counting-requires c streaming =
    let r = c.requires.reached in
    ap (λ (v : View). is_above_all c.args.request.stream v.marks) c.session.view_is
    ∙ above r.0 c.args.session.now r.2 r.3 c.args.request.stream c.args.request.route c.args.request.text (stage_of c.args.request.rest) r.4.0 r.4.1 r.4.2 (sym r.1.passing ∙ streaming)

pub returns-clause-performs : goal.returns-clause-performs
returns-clause-performs c =
    let old : View = record { inbound = c.session.inside.inbound; offers = c.session.inside.offers; upstreams = c.session.inside.upstreams; marks = c.session.inside.marks; encoding = c.session.inside.encoder; untaken = c.session.inside.untaken } in
    let sides : List Side = with_side (passing_in c.args.passing) c.args.request.stream c.in_ok-k.k (length c.as_slice-2.result.now) old.marks in
    on_ok_weaker c.send_up.result
    (λ puts setup fresh back passed.
    subst (λ (v : View). PerformsOwn setup c.args.session.now (record balanced { due = due_for c.args.request; fresh = fresh; shared = back }) c.args.out.now v (record balanced { fresh = fresh; shared = back }) c.send_up.new.self) (sym c.in_ok-begin_counting.ensures)
    (subst (λ (v : View). PerformsOwn setup v (record balanced { due = due_for c.args.request; fresh = fresh; shared = back }) c.args.out.now (record old { upstreams = c.put.new.self; marks = sides }) (record balanced { fresh = fresh; shared = back }) c.send_up.new.self) c.session.view_is
    (calls_perform old c.args.request.stream c.args.request.route c.args.request.text (stage_of c.args.request.rest) c.asks_for_head-to_head.result c.args.passing c.open.new.self c.put.new.self sides c.in_ok-k.k (length c.as_slice-2.result.now) c.args.out.now c.open_up.new.self c.send_up.new.self
    (c.asks_for_head-to_head.ensures ∙ ap (λ x. is_front_of (codes "HEAD ") x) c.as_slice.ensures) c.open.ensures.stands c.in_ok-k.ensures.number (ap (λ (x : List ℕ). length x) c.as_slice-2.ensures) c.in_ok-k.ensures.opened c.put.ensures refl c.in_ok-open_up.ensures puts setup fresh back passed)))
    c.send_up.ensures

pub returns-clause-handed : goal.returns-clause-handed
returns-clause-handed c =
    let r = c.requires.reached in
    let old : View = record { inbound = c.session.inside.inbound; offers = c.session.inside.offers; upstreams = c.session.inside.upstreams; marks = c.session.inside.marks; encoding = c.session.inside.encoder; untaken = c.session.inside.untaken } in
    let sides : List Side = with_side (passing_in c.args.passing) c.args.request.stream c.in_ok-k.k (length c.as_slice-2.result.now) old.marks in
    let served : (told_view old).served c.args.request.stream ≡ true =
    ap (λ (v : View). (told_view v).served c.args.request.stream) c.session.view_is
    ∙ stream_served r.0 c.args.session.now r.2 r.3 c.args.request.stream c.args.request.route c.args.request.text (stage_of c.args.request.rest) r.4.0 r.4.1 r.4.2 in
    on_ok_weaker c.send_up.result
    (λ puts.
    subst (λ (v : View). IsHandedOn c.args.session.now v) (sym c.in_ok-begin_counting.ensures)
    (subst (λ (v : View). IsHandedOn v (record old { upstreams = c.put.new.self; marks = sides })) c.session.view_is
    (handed_as old c.put.new.self sides
    (opens_but old c.args.request.stream c.args.request.route c.in_ok-k.k (length c.as_slice-2.result.now) c.asks_for_head-to_head.result c.args.passing (stage_of c.args.request.rest) c.open.new.self c.put.new.self sides served c.in_ok-k.ensures.opened c.put.ensures)
    (past_opened (passing_in c.args.passing) old.inbound.last c.args.request.stream c.in_ok-k.k (length c.as_slice-2.result.now) old.marks))))
    c.send_up.ensures
