use Rattle.std.proofs.Common.{◌-◌, sym, ap, subst}
use Rattle.model.specs.Logs.Event.{ClientTook}
use Rattle.model.specs.Tapes.Entry.{Happened}
use Rattle.refinement.specs.View.{View, balanced}
use Rattle.refinement.specs.Bringing.{Brings}
use Rattle.event_handlers.proofs.paying.Noting.{client_took}
use Rattle.event_handlers.proofs.paying.taking.note_client_took.Goals as goal

pub returns-clause-brings : goal.returns-clause-brings
returns-clause-brings c = λ setup outputs.
    subst (λ (v : View). Brings setup c.args.session.now balanced outputs (Happened (ClientTook c.args.count)) v balanced outputs) (sym (ap (λ (v : View). record v { untaken = v.untaken - c.args.count }) c.session.view_is))
    (client_took setup c.args.session.now c.args.count c.requires.within c.requires.rest outputs)
