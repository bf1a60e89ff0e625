use Rattle.std.proofs.Common.{◌≡◌, sym, ap, ◌∙◌, subst, List, None, arith}
use Rattle.theory_receive_windows.specs.Marks.{total}
use Rattle.window_credit.specs.Sides.{Side, find, without, queue_if, queue_of, octets_behind}
use Rattle.window_credit.specs.Places.{IsAt, AreRising, AllAreSome}
use Rattle.window_credit.proofs.Rising.{without_at, without_none, rising_without}
use Rattle.window_credit.proofs.Changing.{found}
use Rattle.window_credit.proofs.Counted.{some_without}
use Rattle.window_credit.proofs.Behind.{behind_gone}
use Rattle.window_credit.proofs.marks.Marks.close.Goals as goal

pub invariant_of-self : goal.invariant_of-self
invariant_of-self c =
    let sides = c.self.inside.sides.items in
    let is : IsAt sides c.args.id c.in-Some.place = rw (← c.deref.ensures.value) c.in-Some.ensures.found in
    let gone = without_at c.args.id sides c.in-Some.place c.self.invariant.0 is ∙ sym c.remove-side.ensures.items in
    let less = behind_gone sides c.in-Some.place c.remove-side.result is.within c.remove-side.ensures.value in
    let own = c.behind.ensures in
    let before = c.self.invariant.2 in
    let left = c.remove-side.ensures.items in (
      subst AreRising gone (rising_without c.args.id sides c.self.invariant.0),
      subst AllAreSome gone (some_without c.args.id sides c.self.invariant.1),
      ap octets_behind left ∙ omega (arith, less, own, before),
    )

pub returns-in-Some-clause-dropped : goal.returns-in-Some-clause-dropped
returns-in-Some-clause-dropped c =
    let sides = c.self.inside.sides.items in
    let is : IsAt sides c.args.id c.in-Some.place = rw (← c.deref.ensures.value) c.in-Some.ensures.found in
    c.total.ensures.all
    ∙ sym (ap (λ s. total (queue_if s)) (found sides c.args.id c.in-Some.place c.self.invariant.0 is c.remove-side.result c.remove-side.ensures.value))
    ∙ ap (λ (xs : List Side). total (queue_of c.args.id xs)) c.self.view_is

pub returns-in-Some-clause-closed : goal.returns-in-Some-clause-closed
returns-in-Some-clause-closed c =
    let sides = c.self.inside.sides.items in
    let is : IsAt sides c.args.id c.in-Some.place = rw (← c.deref.ensures.value) c.in-Some.ensures.found in
    c.remove-side.ensures.items ∙ sym (without_at c.args.id sides c.in-Some.place c.self.invariant.0 is) ∙ ap (without c.args.id) c.self.view_is

pub returns-in-None-clause-closed : goal.returns-in-None-clause-closed
returns-in-None-clause-closed c =
    let absent : find c.args.id c.self.inside.sides.items ≡ None = rw (← c.deref.ensures.value) c.in-None.ensures.absent in
    subst (λ (xs : List Side). xs ≡ without c.args.id xs) c.self.view_is (sym (without_none c.args.id c.self.inside.sides.items absent))
