use Rattle.std.proofs.Common.{◌≡◌, false, sym, ap, ◌∙◌, subst, List, None, Option}
use Rattle.std.specs.Prelude.{IfSome}
use Rattle.theory_receive_windows.specs.Marks.{released}
use Rattle.window_credit.specs.Counts.{AreSome}
use Rattle.window_credit.proofs.CountedInQueue.{popped_some}
use Rattle.window_credit.specs.Sides.{Side, find, change, taking, queue_if, queue_of, MayTake}
use Rattle.window_credit.specs.Places.{IsAt}
use Rattle.window_credit.proofs.Rising.{change_none}
use Rattle.window_credit.proofs.Changing.{found, some_read, changed_to, rising_to}
use Rattle.window_credit.proofs.Counted.{some_set}
use Rattle.window_credit.proofs.Behind.{behind_same, newest_none}
use Rattle.window_credit.proofs.marks.Marks.take_own.Goals as goal

pub take-requires : goal.take-requires
take-requires c =
    let sides = c.self.inside.sides.items in
    let is : IsAt sides c.args.id c.in-Some.place = rw (← c.deref.ensures.value) c.in-Some.ensures.found in
    let may : MayTake c.args.taken c.index_mut.result.now = subst (λ (s : Option Side). IfSome s (MayTake c.args.taken)) (ap (find c.args.id) (sym c.self.view_is) ∙ found sides c.args.id c.in-Some.place c.self.invariant.0 is c.index_mut.result.now c.index_mut.ensures.value) c.requires in
    λ newest. may.within

pub invariant_of-self : goal.invariant_of-self
invariant_of-self c =
    let sides = c.self.inside.sides.items in
    let is : IsAt sides c.args.id c.in-Some.place = rw (← c.deref.ensures.value) c.in-Some.ensures.found in
    let side = c.index_mut.result.now in
    let may : MayTake c.args.taken side = subst (λ (s : Option Side). IfSome s (MayTake c.args.taken)) (ap (find c.args.id) (sym c.self.view_is) ∙ found sides c.args.id c.in-Some.place c.self.invariant.0 is side c.index_mut.ensures.value) c.requires in
    let before : AreSome side.queue = some_read sides c.args.id c.in-Some.place c.self.invariant.0 is side c.index_mut.ensures.value c.self.invariant.1 in
    let some : AreSome c.take.new.self.queue = subst (λ (s : Side). AreSome s.queue) (sym c.take.ensures.kept) (popped_some c.args.taken side.queue before) in
    let newest : c.take.new.self.past ≡ false = ap (λ (s : Side). s.past) c.take.ensures.kept ∙ may.newest in (
      rising_to sides c.args.id c.in-Some.place c.self.invariant.0 is side c.index_mut.ensures.value c.take.new.self (ap (λ side. side.id) c.take.ensures.kept),
      some_set sides c.in-Some.place c.take.new.self c.self.invariant.1 some,
      behind_same sides c.in-Some.place side c.take.new.self is.within c.index_mut.ensures.value (newest_none c.take.new.self newest ∙ sym (newest_none side may.newest)) ∙ c.self.invariant.2,
    )

pub returns-in-Some-clause-kept : goal.returns-in-Some-clause-kept
returns-in-Some-clause-kept c =
    let sides = c.self.inside.sides.items in
    let is : IsAt sides c.args.id c.in-Some.place = rw (← c.deref.ensures.value) c.in-Some.ensures.found in
    changed_to sides c.args.id c.in-Some.place c.self.invariant.0 is c.index_mut.result.now c.index_mut.ensures.value (taking c.args.taken) c.take.new.self c.take.ensures.kept
    ∙ ap (change c.args.id (taking c.args.taken)) c.self.view_is

pub returns-in-None-clause-kept : goal.returns-in-None-clause-kept
returns-in-None-clause-kept c =
    let absent : find c.args.id c.self.inside.sides.items ≡ None = rw (← c.deref.ensures.value) c.in-None.ensures.absent in
    subst (λ (xs : List Side). xs ≡ change c.args.id (taking c.args.taken) xs) c.self.view_is (sym (change_none c.args.id (taking c.args.taken) c.self.inside.sides.items absent))

pub returns-in-Some-clause-released : goal.returns-in-Some-clause-released
returns-in-Some-clause-released c =
    let sides = c.self.inside.sides.items in
    let is : IsAt sides c.args.id c.in-Some.place = rw (← c.deref.ensures.value) c.in-Some.ensures.found in
    c.take.ensures.released
    ∙ sym (ap (λ s. released c.args.taken (queue_if s)) (found sides c.args.id c.in-Some.place c.self.invariant.0 is c.index_mut.result.now c.index_mut.ensures.value))
    ∙ ap (λ (xs : List Side). released c.args.taken (queue_of c.args.id xs)) c.self.view_is
