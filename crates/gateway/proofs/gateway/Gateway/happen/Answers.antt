use Rattle.std.proofs.Common.{refl, sym, ◌∙◌, ap}
use Rattle.model.specs.Logs.Event.{ClientEnd, ClientTook, Up, UpEnd, UpFailed, UpTook, Drain}
use Rattle.effects.specs.Views.{event_of}
use Rattle.event_handlers.specs.declared.resting.Onward.TheVariants as answer
use Rattle.event_handlers.proofs.Results.{if_ok}
use Rattle.gateway.proofs.Pieces.{hears_by}
use Rattle.gateway.proofs.gateway.Gateway.happen.Goals as goal

pub returns-in_ok-leave-in-ClientEnd-clause-happens : goal.returns-in_ok-leave-in-ClientEnd-clause-happens
returns-in_ok-leave-in-ClientEnd-clause-happens c =
    rw (← c.self.view_is) (hears_by _ c.leave.new.session answer.Over c.args.out.now c.leave.new.out ClientEnd (event_of c.args.event.now) (ap event_of c.in-ClientEnd.is) refl (λ setup serves. c.in_ok-leave-in-ClientEnd.ensures setup))

pub returns-in-ClientTook-clause-happens : goal.returns-in-ClientTook-clause-happens
returns-in-ClientTook-clause-happens c =
    rw (← c.self.view_is) (if_ok c.client_took.result
    (λ went comes. hears_by _ c.client_took.new.session went c.args.out.now c.client_took.new.out (ClientTook c.in-ClientTook.count) (event_of c.args.event.now) (ap event_of c.in-ClientTook.is) refl (λ setup serves. comes setup)) c.client_took.ensures.comes)

pub returns-in-UpEnd-clause-happens : goal.returns-in-UpEnd-clause-happens
returns-in-UpEnd-clause-happens c =
    rw (← c.self.view_is) (if_ok c.end.result
    (λ went comes. hears_by _ c.end.new.session went c.args.out.now c.end.new.out (UpEnd c.in-UpEnd.k) (event_of c.args.event.now) (ap event_of c.in-UpEnd.is) refl (λ setup serves. comes setup)) c.end.ensures.comes)

pub returns-in-UpFailed-clause-happens : goal.returns-in-UpFailed-clause-happens
returns-in-UpFailed-clause-happens c =
    rw (← c.self.view_is) (if_ok c.fail.result
    (λ went comes. hears_by _ c.fail.new.session went c.args.out.now c.fail.new.out (UpFailed c.in-UpFailed.k) (event_of c.args.event.now) (ap event_of c.in-UpFailed.is) refl (λ setup serves. comes setup)) c.fail.ensures.comes)

pub returns-in-UpTook-clause-happens : goal.returns-in-UpTook-clause-happens
returns-in-UpTook-clause-happens c =
    rw (← c.self.view_is) (if_ok c.up_took.result
    (λ went comes. hears_by _ c.up_took.new.session went c.args.out.now c.up_took.new.out (UpTook c.in-UpTook.k c.in-UpTook.count) (event_of c.args.event.now) (ap event_of c.in-UpTook.is) refl (λ setup serves. comes setup)) c.up_took.ensures.comes)

pub returns-in-Up-clause-happens : goal.returns-in-Up-clause-happens
returns-in-Up-clause-happens c =
    rw (← c.self.view_is) (if_ok c.hear.result
    (λ went comes. hears_by _ c.hear.new.session went c.args.out.now c.hear.new.out (Up c.in-Up.k c.deref-in-Up.result.now) (event_of c.args.event.now) (ap event_of c.in-Up.is ∙ ap (Up c.in-Up.k) (sym c.deref-in-Up.ensures.value)) refl (λ setup serves. comes setup (serves.keep, serves.most_idle))) c.hear.ensures.comes)

pub returns-in-Drain-clause-happens : goal.returns-in-Drain-clause-happens
returns-in-Drain-clause-happens c =
    rw (← c.self.view_is) (if_ok c.drain.result
    (λ went comes. hears_by _ c.drain.new.session went c.args.out.now c.drain.new.out Drain (event_of c.args.event.now) (ap event_of c.in-Drain.is) refl (λ setup serves. comes setup)) c.drain.ensures.comes)
