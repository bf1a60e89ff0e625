use Rattle.std.proofs.Common.{◌≡◌, ℕ, List, length, Option, sym, ◌∙◌, ap, subst, nat_lt, [], ◌∷◌, None}
use Rattle.frames.specs.Views.{frame_of}
use Rattle.theory_errors.specs.Rows.{Row}
use Rattle.connection_state.proofs.Kept.{if_ok}
use Rattle.refinement.specs.View.{View, balanced, Leads}
use Rattle.refinement.specs.Rest.{IsAtRest}
use Rattle.refinement.specs.contracts.session.Session.{the_view}
use Rattle.refinement.proofs.Coming.{outside_of}
use Rattle.model.specs.Limits.{most_untaken}
use Rattle.event_handlers.specs.Comings.{ComesFrom}
use Rattle.event_handlers.specs.Inputs.Input.{OfFrame}
use Rattle.event_handlers.proofs.Results.{on_over}
use Rattle.event_handlers.specs.block_frames.Following.{goaway_behind}
use Rattle.event_handlers.specs.block_frames.Acting.{IsActed, IsStopped}
use Rattle.event_handlers.specs.block_frames.Taken.{IsBlockTaken}
use Rattle.event_handlers.proofs.block_frames.Judged.{newest, may_act, all_taken, all_stopped}
use Rattle.event_handlers.proofs.block_frames.taking.take_block.Goals as goal

pub act-requires-clause-newest : goal.act-requires-clause-newest
act-requires-clause-newest c =
    newest c.requires.reached.0 (the_view c.session.inside) (subst IsAtRest (sym c.session.view_is) c.requires.rest) c.requires.reached.3.0 c.requires.reached.3.1
    (subst (λ (v : View). Leads c.requires.reached.0 c.requires.reached.3.0 v balanced c.requires.reached.3.1) (sym c.session.view_is) c.requires.reached.3.2) (frame_of c.args.view) c.requires.kind c.args.outlet c.judge_fragment.new.self c.args.out.now c.requires.of_stream c.in_ok-answer.answer
    (c.in_ok-answer.ensures c.requires.reached.0 (outside_of c.session.inside.untaken) c.requires.reached.1 (ap (λ (v : View). nat_lt most_untaken v.untaken) c.session.view_is ∙ sym c.is_crowded-crowded.ensures))

pub act-requires-clause-may : goal.act-requires-clause-may
act-requires-clause-may c =
    may_act c.requires.reached.0 (the_view c.session.inside) (subst IsAtRest (sym c.session.view_is) c.requires.rest) c.requires.reached.3.0 c.requires.reached.3.1
    (subst (λ (v : View). Leads c.requires.reached.0 c.requires.reached.3.0 v balanced c.requires.reached.3.1) (sym c.session.view_is) c.requires.reached.3.2) (frame_of c.args.view) c.requires.kind c.args.outlet c.judge_fragment.new.self c.args.out.now c.requires.of_stream c.in_ok-answer.answer
    (c.in_ok-answer.ensures c.requires.reached.0 (outside_of c.session.inside.untaken) c.requires.reached.1 (ap (λ (v : View). nat_lt most_untaken v.untaken) c.session.view_is ∙ sym c.is_crowded-crowded.ensures))

pub returns-clause-taken : goal.returns-clause-taken
returns-clause-taken c = if_ok c.act.result c.act.ensures.taken (λ taken acted setup for whole.
    let last : c.goaway_behind-goaway.result ≡ goaway_behind (length c.session.inside.inbound.rows) c.judge_fragment.new.self.rows =
    c.goaway_behind-goaway.ensures
    ∙ ap (λ n. goaway_behind n c.streams-2.result.now) (c.count-before.ensures.is ∙ ap (λ (rows : List Row). length rows) c.streams.ensures.is)
    ∙ ap (λ (rows : List Row). goaway_behind (length c.session.inside.inbound.rows) rows) c.streams-2.ensures.is in
    subst (λ (v : View). IsBlockTaken setup v c.args.out.now (frame_of c.args.view) taken c.act.new.session c.act.new.out) c.session.view_is
    (all_taken c.requires.reached.0 (the_view c.session.inside) (subst IsAtRest (sym c.session.view_is) c.requires.rest) c.requires.reached.3.0 c.requires.reached.3.1
    (subst (λ (v : View). Leads c.requires.reached.0 c.requires.reached.3.0 v balanced c.requires.reached.3.1) (sym c.session.view_is) c.requires.reached.3.2) (frame_of c.args.view) c.requires.kind c.args.outlet c.judge_fragment.new.self c.args.out.now c.requires.of_stream setup whole c.in_ok-answer.answer
    (c.in_ok-answer.ensures setup (outside_of c.session.inside.untaken) for (ap (λ (v : View). nat_lt most_untaken v.untaken) c.session.view_is ∙ sym c.is_crowded-crowded.ensures)) taken c.act.new.session c.act.new.out
    (subst (λ (l : Option ℕ). IsActed c.args.view.id c.args.outlet c.in_ok-answer.answer l (record (the_view c.session.inside) { inbound = c.judge_fragment.new.self }) c.args.out.now taken c.act.new.session c.act.new.out) last acted)))

pub returns-clause-over : goal.returns-clause-over
returns-clause-over c = on_over c.act.result (λ stopped setup for whole.
    let last : c.goaway_behind-goaway.result ≡ goaway_behind (length c.session.inside.inbound.rows) c.judge_fragment.new.self.rows =
    c.goaway_behind-goaway.ensures
    ∙ ap (λ n. goaway_behind n c.streams-2.result.now) (c.count-before.ensures.is ∙ ap (λ (rows : List Row). length rows) c.streams.ensures.is)
    ∙ ap (λ (rows : List Row). goaway_behind (length c.session.inside.inbound.rows) rows) c.streams-2.ensures.is in
    subst (λ (v : View). ComesFrom setup v balanced c.args.out.now (OfFrame (frame_of c.args.view) ∷ []) balanced None c.act.new.out) c.session.view_is
    (all_stopped c.requires.reached.0 (the_view c.session.inside) (subst IsAtRest (sym c.session.view_is) c.requires.rest) c.requires.reached.3.0 c.requires.reached.3.1
    (subst (λ (v : View). Leads c.requires.reached.0 c.requires.reached.3.0 v balanced c.requires.reached.3.1) (sym c.session.view_is) c.requires.reached.3.2) (frame_of c.args.view) c.requires.kind c.args.outlet c.judge_fragment.new.self c.args.out.now c.requires.of_stream setup c.in_ok-answer.answer
    (c.in_ok-answer.ensures setup (outside_of c.session.inside.untaken) for (ap (λ (v : View). nat_lt most_untaken v.untaken) c.session.view_is ∙ sym c.is_crowded-crowded.ensures)) c.act.new.out
    (subst (λ (l : Option ℕ). IsStopped c.args.view.id c.in_ok-answer.answer l (record (the_view c.session.inside) { inbound = c.judge_fragment.new.self }) c.args.out.now c.act.new.out) last stopped))) c.act.ensures.over
