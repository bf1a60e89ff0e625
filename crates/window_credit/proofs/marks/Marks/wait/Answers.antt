use Rattle.std.proofs.Common.{◌≡◌, ◌+◌, ◌<◌, ◌^◌, false, sym, ap, ◌∙◌, subst, set, List, None, OnOk}
use Rattle.theory_receive_windows.specs.Marks.{total}
use Rattle.window_credit.specs.Counts.{AreSome}
use Rattle.window_credit.specs.Sides.{Side, find, change, waiting, queue_if, queue_of, is_past, is_past_if}
use Rattle.window_credit.specs.Places.{IsAt}
use Rattle.window_credit.proofs.Rising.{change_none}
use Rattle.window_credit.proofs.Changing.{on_ok, found, some_read, changed_to, rising_to}
use Rattle.window_credit.proofs.Counted.{some_set, some_more_wait}
use Rattle.window_credit.proofs.Behind.{behind_same, newest_none}
use Rattle.window_credit.proofs.marks.Marks.wait.Goals as goal

pub wait-requires-clause-fits : goal.wait-requires-clause-fits
wait-requires-clause-fits c =
    let sides = c.self.inside.sides.items in
    let is : IsAt sides c.args.id c.in-Some.place = rw (← c.deref.ensures.value) c.in-Some.ensures.found in
    subst (λ n. n + c.args.count < 2 ^ 64) (ap (λ (xs : List Side). total (queue_of c.args.id xs)) (sym c.self.view_is) ∙ ap (λ s. total (queue_if s)) (found sides c.args.id c.in-Some.place c.self.invariant.0 is c.index_mut.result.now c.index_mut.ensures.value)) c.requires.fits

pub invariant_of-self : goal.invariant_of-self
invariant_of-self c =
    let sides = c.self.inside.sides.items in
    let is : IsAt sides c.args.id c.in-Some.place = rw (← c.deref.ensures.value) c.in-Some.ensures.found in
    let side = c.index_mut.result.now in
    let before : AreSome side.queue = some_read sides c.args.id c.in-Some.place c.self.invariant.0 is side c.index_mut.ensures.value c.self.invariant.1 in
    let some : AreSome c.wait.new.self.queue = some_more_wait c.args.count side c.wait.new.self c.wait.result c.requires.some before c.wait.ensures.added c.wait.ensures.unchanged in
    let newest : side.past ≡ false = sym (ap (λ (xs : List Side). is_past c.args.id xs) (sym c.self.view_is) ∙ ap is_past_if (found sides c.args.id c.in-Some.place c.self.invariant.0 is side c.index_mut.ensures.value)) ∙ c.requires.newest in (
      rising_to sides c.args.id c.in-Some.place c.self.invariant.0 is side c.index_mut.ensures.value c.wait.new.self c.wait.ensures.id,
      some_set sides c.in-Some.place c.wait.new.self c.self.invariant.1 some,
      behind_same sides c.in-Some.place side c.wait.new.self is.within c.index_mut.ensures.value (newest_none c.wait.new.self (c.wait.ensures.past ∙ newest) ∙ sym (newest_none side newest)) ∙ c.self.invariant.2,
    )

pub returns-in-Some-clause-added : goal.returns-in-Some-clause-added
returns-in-Some-clause-added c =
    let sides = c.self.inside.sides.items in
    let is : IsAt sides c.args.id c.in-Some.place = rw (← c.deref.ensures.value) c.in-Some.ensures.found in
    let added : List Side → List Side = change c.args.id (waiting c.args.count) in
    subst (λ (xs : List Side). OnOk c.wait.result (set sides c.in-Some.place c.wait.new.self ≡ added xs)) c.self.view_is
    (on_ok (c.wait.new.self ≡ waiting c.args.count c.index_mut.result.now) (set sides c.in-Some.place c.wait.new.self ≡ added sides) c.wait.result c.wait.ensures.added (λ waits.
    changed_to sides c.args.id c.in-Some.place c.self.invariant.0 is c.index_mut.result.now c.index_mut.ensures.value (waiting c.args.count) c.wait.new.self waits))

pub returns-in-None-clause-added : goal.returns-in-None-clause-added
returns-in-None-clause-added c =
    let absent : find c.args.id c.self.inside.sides.items ≡ None = rw (← c.deref.ensures.value) c.in-None.ensures.absent in
    subst (λ (xs : List Side). xs ≡ change c.args.id (waiting c.args.count) xs) c.self.view_is (sym (change_none c.args.id (waiting c.args.count) c.self.inside.sides.items absent))
