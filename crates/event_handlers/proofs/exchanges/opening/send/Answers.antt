use Rattle.std.proofs.Common.{rules, ◌≡◌, ◌∙◌, ◌+◌, ◌<◌, ◌^◌, ℕ, List, Option, sym, ap, subst}
use Rattle.std.proofs.lemmas.Result.{on_ok_weaker}
use Rattle.std.specs.Prelude.{is_some, IfSome, OnOk}
use Rattle.model.specs.Logs.Act.{ToUp}
use Rattle.model.specs.Logs.Output.{Does}
use Rattle.model.specs.Tapes.{put}
use Rattle.window_credit.specs.Sides.{find as find_side}
use Rattle.window_credit.specs.Sides.{is_past}
use Rattle.theory_requests.specs.Lines.{find}
use Rattle.theory_requests.specs.State.Due.{ToSend}
use Rattle.upstream_connections.specs.Connections.{Connection, number_of, HasRoom}
use Rattle.refinement.specs.View.{View, balanced}
use Rattle.refinement.specs.Bringing.{PerformsOwn}
use Rattle.event_handlers.specs.MidStep.{IsHandedOn}
use Rattle.event_handlers.proofs.MidSteps.{handed_as}
use Rattle.event_handlers.proofs.exchanges.Newest.{past_put}
use Rattle.event_handlers.proofs.exchanges.Sends.{open_there, side_room, stream_is, calls_send, sends_but}
use Rattle.event_handlers.proofs.exchanges.opening.send.Goals as goal

pub stream_of-stream-requires : goal.stream_of-stream-requires
stream_of-stream-requires c =
    let r = c.requires.reached in
    ap (λ (o : Option Connection). is_some o) (open_there r.0 c.args.session.now r.1 r.2 c.args.number c.args.text.items r.3.0 r.3.1 r.3.2).1

pub put-requires-2 : goal.put-requires-2
put-requires-2 c =
    let r = c.requires.reached in
    let there = open_there r.0 c.args.session.now r.1 r.2 c.args.number c.args.text.items r.3.0 r.3.1 r.3.2 in
    let own : c.stream_of-stream.result ≡ there.0.live.stream = stream_is (find number_of c.args.number c.args.session.now.upstreams.live) c.stream_of-stream.result there.0 c.stream_of-stream.ensures there.1 in
    subst (λ (v : View). IfSome (find_side c.stream_of-stream.result v.marks) (λ side. side.out + c.len-count.result < 2 ^ 64)) (sym c.session.view_is)
    (subst (λ n. IfSome (find_side n c.args.session.now.marks) (λ side. side.out + c.len-count.result < 2 ^ 64)) (sym own)
    (side_room r.0 c.args.session.now r.1 r.2 c.args.number c.args.text.items r.3.0 r.3.1 r.3.2 c.len-count.result
    (subst (λ (v : View). HasRoom c.len-count.result (find number_of c.args.number v.upstreams.live)) c.session.view_is c.if-not-has_room.ensures)))

pub returns-clause-performs : goal.returns-clause-performs
returns-clause-performs c =
    let old : View = record { inbound = c.session.inside.inbound; offers = c.session.inside.offers; upstreams = c.session.inside.upstreams; marks = c.session.inside.marks; encoding = c.session.inside.encoder; untaken = c.session.inside.untaken } in
    on_ok_weaker c.send_up.result
    (λ puts setup fresh back.
    subst (λ (v : View). PerformsOwn setup v (record balanced { due = ToSend c.args.number c.args.text.items; fresh = fresh; shared = back }) c.args.out.now (record old { upstreams = c.put.new.self; marks = c.put-2.new.self }) (record balanced { fresh = fresh; shared = back }) c.send_up.new.self) c.session.view_is
    (calls_send old c.args.number c.stream_of-stream.result c.len-count.result c.args.text.items c.put.new.self c.put-2.new.self c.args.out.now c.send_up.new.self
    (subst (λ (v : View). IfSome (find number_of c.args.number v.upstreams.live) (λ x. c.stream_of-stream.result ≡ x.live.stream)) (sym c.session.view_is) c.stream_of-stream.ensures) (search rules) c.put.ensures c.put-2.ensures puts setup fresh back))
    (subst (λ (t : List ℕ). OnOk c.send_up.result (c.send_up.new.self ≡ put c.args.out.now (Does (ToUp c.args.number t)))) c.from_octets.ensures c.send_up.ensures)

pub returns-clause-handed : goal.returns-clause-handed
returns-clause-handed c =
    let old : View = record { inbound = c.session.inside.inbound; offers = c.session.inside.offers; upstreams = c.session.inside.upstreams; marks = c.session.inside.marks; encoding = c.session.inside.encoder; untaken = c.session.inside.untaken } in
    on_ok_weaker c.send_up.result
    (λ puts.
    subst (λ (v : View). IsHandedOn v (record old { upstreams = c.put.new.self; marks = c.put-2.new.self })) c.session.view_is
    (handed_as old c.put.new.self c.put-2.new.self
    (sends_but old c.args.number c.stream_of-stream.result c.len-count.result c.args.text.items c.put.new.self c.put-2.new.self c.args.out.now c.send_up.new.self
    (subst (λ (v : View). IfSome (find number_of c.args.number v.upstreams.live) (λ x. c.stream_of-stream.result ≡ x.live.stream)) (sym c.session.view_is) c.stream_of-stream.ensures) (search rules) c.put.ensures c.put-2.ensures puts)
    (λ was. ap (is_past old.inbound.last) c.put-2.ensures ∙ past_put old.inbound.last c.stream_of-stream.result c.len-count.result old.marks ∙ was)))
    (subst (λ (t : List ℕ). OnOk c.send_up.result (c.send_up.new.self ≡ put c.args.out.now (Does (ToUp c.args.number t)))) c.from_octets.ensures c.send_up.ensures)
