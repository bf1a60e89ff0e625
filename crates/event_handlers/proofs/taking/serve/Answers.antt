use Rattle.std.proofs.Common.{sym, subst}
use Rattle.upstream_connections.specs.Requests.{due_by}
use Rattle.upstream_connections.specs.declared.held.Due.{Due}
use Rattle.refinement.specs.View.{balanced}
use Rattle.refinement.specs.Rest.{Reached}
use Rattle.refinement.specs.Bringing.{PerformsOwn}
use Rattle.refinement.proofs.Bringing.{own_none}
use Rattle.event_handlers.proofs.MidSteps.{handed_none}
use Rattle.event_handlers.proofs.Results.{on_ok}
use Rattle.event_handlers.proofs.taking.serve.Goals as goal

pub returns-in-Nothing-clause-performs : goal.returns-in-Nothing-clause-performs
returns-in-Nothing-clause-performs c setup fresh back passed =
    subst (λ (d : Due). PerformsOwn setup c.args.session.now (record balanced { due = due_by d; fresh = fresh; shared = back }) c.args.out.now c.args.session.now (record balanced { fresh = fresh; shared = back }) c.args.out.now) (sym c.in-Nothing.is)
    (own_none setup c.args.session.now (record balanced { fresh = fresh; shared = back }) c.args.out.now)

pub open-requires : goal.open-requires
open-requires c =
    let r = c.requires.reached in
    record { reached = (r.0, r.1, r.2, r.3, subst (λ (d : Due). Reached r.0 c.args.session.now (record balanced { due = due_by d; fresh = r.2; shared = r.3 })) c.in-ToOpen.is r.4) }

pub returns-in-ToOpen-clause-performs : goal.returns-in-ToOpen-clause-performs
returns-in-ToOpen-clause-performs c =
    on_ok c.open.result
    (λ performs setup fresh back passed.
    subst (λ (d : Due). PerformsOwn setup c.args.session.now (record balanced { due = due_by d; fresh = fresh; shared = back }) c.args.out.now c.open.new.session (record balanced { fresh = fresh; shared = back }) c.open.new.out) (sym c.in-ToOpen.is) (performs setup fresh back passed)) c.open.ensures.performs

pub reuse-requires : goal.reuse-requires
reuse-requires c =
    let r = c.requires.reached in
    record { reached = (r.0, r.1, r.2, r.3, subst (λ (d : Due). Reached r.0 c.args.session.now (record balanced { due = due_by d; fresh = r.2; shared = r.3 })) c.in-ToUse.is r.4) }

pub returns-in-ToUse-clause-performs : goal.returns-in-ToUse-clause-performs
returns-in-ToUse-clause-performs c =
    on_ok c.reuse.result
    (λ performs setup fresh back passed.
    subst (λ (d : Due). PerformsOwn setup c.args.session.now (record balanced { due = due_by d; fresh = fresh; shared = back }) c.args.out.now c.reuse.new.session (record balanced { fresh = fresh; shared = back }) c.reuse.new.out) (sym c.in-ToUse.is) (performs setup fresh back passed)) c.reuse.ensures.performs

pub returns-in-ToSend-clause-performs : goal.returns-in-ToSend-clause-performs
returns-in-ToSend-clause-performs c =
    on_ok c.send.result
    (λ performs setup fresh back passed.
    subst (λ (d : Due). PerformsOwn setup c.args.session.now (record balanced { due = due_by d; fresh = fresh; shared = back }) c.args.out.now c.send.new.session (record balanced { fresh = fresh; shared = back }) c.send.new.out) (sym c.in-ToSend.is) (performs setup fresh back)) c.send.ensures.performs

pub returns-in-Nothing-clause-handed : goal.returns-in-Nothing-clause-handed
returns-in-Nothing-clause-handed c = handed_none c.args.session.now
