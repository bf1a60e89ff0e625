use Rattle.std.proofs.Common.{ℕ, Option, sym, ◌∙◌, ap, subst}
use Rattle.model.specs.Logs.Event.{Drain}
use Rattle.model.specs.Tapes.Entry.{Happened}
use Rattle.connection_state.specs.Inbound.{Inbound}
use Rattle.refinement.specs.View.{View, balanced}
use Rattle.refinement.specs.Bringing.{Brings}
use Rattle.event_handlers.specs.block_frames.Following.{goaway_frames}
use Rattle.event_handlers.specs.Draining.{drained_at, last_of}
use Rattle.event_handlers.proofs.Drained.{drain_noted}
use Rattle.event_handlers.proofs.draining.note_drain.Goals as goal

pub returns-clause-notes : goal.returns-clause-notes
returns-clause-notes c =
    let old : View = record { inbound = c.session.inside.inbound; offers = c.session.inside.offers; upstreams = c.session.inside.upstreams; marks = c.session.inside.marks; encoding = c.session.inside.encoder; untaken = c.session.inside.untaken } in
    ap (λ (i : Inbound). record old { inbound = i }) c.drain.ensures.drained ∙ ap drained_at c.session.view_is

pub returns-clause-brings : goal.returns-clause-brings
returns-clause-brings c = λ setup outputs.
    let old : View = record { inbound = c.session.inside.inbound; offers = c.session.inside.offers; upstreams = c.session.inside.upstreams; marks = c.session.inside.marks; encoding = c.session.inside.encoder; untaken = c.session.inside.untaken } in
    subst (λ (last : Option ℕ). Brings setup c.args.session.now balanced outputs (Happened Drain) (record old { inbound = c.drain.new.self }) (record balanced { owed = goaway_frames last }) outputs) (sym (c.drain.ensures.last ∙ ap last_of c.session.view_is))
    (subst (λ (v : View). Brings setup c.args.session.now balanced outputs (Happened Drain) v (record balanced { owed = goaway_frames (last_of c.args.session.now) }) outputs) (sym (returns-clause-notes c))
    (drain_noted setup c.args.session.now c.requires.rest outputs))
