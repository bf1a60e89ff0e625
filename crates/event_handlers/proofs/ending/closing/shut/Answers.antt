use Rattle.std.proofs.Common.{◌≡◌, ◌∷◌, reverse, subst}
use Rattle.model.specs.Logs.Act.{CloseClient}
use Rattle.model.specs.Tapes.Entry.{Did}
use Rattle.upstream_connections.specs.Connections.{lives}
use Rattle.theory.specs.Ending.{closed_all}
use Rattle.refinement.specs.Performing.{put_all}
use Rattle.refinement.specs.View.{View}
use Rattle.event_handlers.proofs.ending.Closes.{on_ok}
use Rattle.event_handlers.proofs.ending.Shutting.{is_shut}
use Rattle.event_handlers.proofs.ending.closing.shut.Goals as goal

pub returns : goal.returns
returns c =
    on_ok c.close_all.result
    (λ closes setup run s fresh back leads.
    is_shut setup run c.args.session.now s fresh back leads c.requires.exhausted c.args.out.now c.close_all.new.out
    (subst (λ (v : View). c.close_all.new.out ≡ put_all c.args.out.now (Did CloseClient ∷ closed_all (reverse (lives v.upstreams.live)))) c.session.view_is closes))
    c.close_all.ensures
