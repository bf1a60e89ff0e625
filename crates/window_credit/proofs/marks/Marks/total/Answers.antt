use Rattle.std.proofs.Common.{◌≤◌, length, sym, ap, ◌∙◌, List, subst}
use Rattle.theory_receive_windows.specs.Marks.{total}
use Rattle.window_credit.specs.Sides.{Side, queue_if, queue_of}
use Rattle.window_credit.specs.Places.{IsAt}
use Rattle.window_credit.proofs.Changing.{found}
use Rattle.window_credit.proofs.marks.Marks.total.Goals as goal

pub returns-in-Some-clause-all : goal.returns-in-Some-clause-all
returns-in-Some-clause-all c =
    let sides = c.self.inside.sides.items in
    let is : IsAt sides c.args.id c.in-Some.place = rw (← c.deref.ensures.value) c.in-Some.ensures.found in
    c.total.ensures.all
    ∙ sym (ap (λ s. total (queue_if s)) (found sides c.args.id c.in-Some.place c.self.invariant.0 is c.index.result.now c.index.ensures))
    ∙ ap (λ (xs : List Side). total (queue_of c.args.id xs)) c.self.view_is

pub returns-in-Some-clause-few : goal.returns-in-Some-clause-few
returns-in-Some-clause-few c =
    let sides = c.self.inside.sides.items in
    let is : IsAt sides c.args.id c.in-Some.place = rw (← c.deref.ensures.value) c.in-Some.ensures.found in
    subst (λ (xs : List Side). length (queue_of c.args.id xs) ≤ c.total.result) c.self.view_is
    (subst (λ s. length (queue_if s) ≤ c.total.result) (sym (found sides c.args.id c.in-Some.place c.self.invariant.0 is c.index.result.now c.index.ensures)) c.total.ensures.few)
