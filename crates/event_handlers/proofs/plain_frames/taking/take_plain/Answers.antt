use Rattle.std.proofs.Common.{◌≡◌, IfOk, sym, subst}
use Rattle.frames.specs.Views.{frame_of}
use Rattle.model.specs.Frames.{Frame}
use Rattle.model.specs.Setup.{Setup}
use Rattle.send_queue.proofs.Changing.{if_ok}
use Rattle.refinement.specs.View.{View, balanced}
use Rattle.refinement.specs.Rest.{IsAtRest, Reached}
use Rattle.event_handlers.specs.plain_frames.Acting.{IsActed, MayAct}
use Rattle.event_handlers.specs.plain_frames.Taken.{IsPlainTaken}
use Rattle.event_handlers.proofs.plain_frames.Acting.{acted_so, may_act}
use Rattle.event_handlers.proofs.plain_frames.taking.take_plain.Goals as goal

pub act-requires : goal.act-requires
act-requires c =
    let old : View = record { inbound = c.session.inside.inbound; offers = c.session.inside.offers; upstreams = c.session.inside.upstreams; marks = c.session.inside.marks; encoding = c.session.inside.encoder; untaken = c.session.inside.untaken } in
    let frame : Frame = frame_of c.args.view in
    let setup : Setup = c.requires.reached.0 in
    let rest : IsAtRest old = subst IsAtRest (sym c.session.view_is) c.requires.rest in
    let reached : Reached setup old balanced = subst (λ (v : View). Reached setup v balanced) (sym c.session.view_is) c.requires.reached.2 in
    subst (λ on. MayAct on frame.id c.judge-answer.result (record old { inbound = c.judge-answer.new.self })) (sym c.goes_on-goes_on.ensures)
    (may_act setup old rest setup reached frame c.requires.plain c.requires.of_stream c.judge-answer.new.self c.judge-answer.ensures.table c.judge-answer.result (λ outside. c.judge-answer.ensures.judged setup outside c.requires.reached.1))

pub returns : goal.returns
returns c =
    let old : View = record { inbound = c.session.inside.inbound; offers = c.session.inside.offers; upstreams = c.session.inside.upstreams; marks = c.session.inside.marks; encoding = c.session.inside.encoder; untaken = c.session.inside.untaken } in
    let frame : Frame = frame_of c.args.view in
    let mid : View = record old { inbound = c.judge-answer.new.self } in
    let rest : IsAtRest old = subst IsAtRest (sym c.session.view_is) c.requires.rest in
    let known : Setup = c.requires.reached.0 in
    let reached : Reached known old balanced = subst (λ (v : View). Reached known v balanced) (sym c.session.view_is) c.requires.reached.2 in
    subst (λ (v : View). IfOk c.act.result (λ taken. (setup : Setup) → setup.max_body ≡ c.args.max_body → IsPlainTaken setup v frame taken c.act.new.session)) c.session.view_is
    (if_ok (λ taken. IsActed c.goes_on-goes_on.result frame.id c.judge-answer.result mid taken c.act.new.session) (λ taken. (setup : Setup) → setup.max_body ≡ c.args.max_body → IsPlainTaken setup old frame taken c.act.new.session) c.act.result c.act.ensures (λ taken acted setup same.
    acted_so setup old rest known reached frame c.requires.plain c.requires.of_stream c.judge-answer.new.self c.judge-answer.ensures.table c.judge-answer.result (λ outside. c.judge-answer.ensures.judged setup outside same) (λ outside. c.judge-answer.ensures.judged known outside c.requires.reached.1) taken c.act.new.session c.requires.short
    (subst (λ on. IsActed on frame.id c.judge-answer.result mid taken c.act.new.session) c.goes_on-goes_on.ensures acted)))
