use Rattle.std.proofs.Common.{sym, ap, ◌∙◌}
use Rattle.theory_responses.specs.State.{State}
use Rattle.send_queue.specs.Places.{IsAt}
use Rattle.send_queue.specs.Asked.{is_cut, is_cut_if}
use Rattle.send_queue.proofs.Changing.{stream_found}
use Rattle.send_queue.proofs.offers.Offers.is_cut.Goals as goal

pub returns-in-Some : goal.returns-in-Some
returns-in-Some c =
    let s : State = record { kept = c.self.inside.kept.items; last = c.self.inside.last } in
    let is : IsAt s.kept c.args.id c.in-Some.place = rw (← c.deref.ensures.value) c.in-Some.ensures.found in
    c.is_cut.ensures
    ∙ sym (ap is_cut_if (stream_found s c.args.id c.in-Some.place c.self.invariant.rising is c.index.result.now c.index.ensures))
    ∙ ap (λ (x : State). is_cut c.args.id x.kept) c.self.view_is
