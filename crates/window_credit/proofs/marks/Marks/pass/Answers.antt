use Rattle.std.proofs.Common.{◌≡◌, ◌+◌, ◌<◌, ◌^◌, sym, ap, ◌∙◌, subst, List, None, arith}
use Rattle.theory_receive_windows.specs.Marks.{total}
use Rattle.window_credit.specs.Counts.{AreSome}
use Rattle.window_credit.specs.Sides.{Side, find, change, passing, queue_if, queue_of, behind_of, octets_behind}
use Rattle.window_credit.specs.Places.{IsAt}
use Rattle.window_credit.proofs.Rising.{change_none}
use Rattle.window_credit.proofs.Changing.{found, some_read, changed_to, rising_to}
use Rattle.window_credit.proofs.Counted.{some_set}
use Rattle.window_credit.proofs.Behind.{behind_changed}
use Rattle.window_credit.proofs.marks.Marks.pass.Goals as goal

pub overflow_add-self : goal.overflow_add-self
overflow_add-self c =
    let sides = c.self.inside.sides.items in
    let is : IsAt sides c.args.id c.in-Some.place = rw (← c.deref.ensures.value) c.in-Some.ensures.found in
    let side = c.index_mut.result.now in
    let own : total (queue_of c.args.id sides) ≡ total side.queue = ap (λ s. total (queue_if s)) (found sides c.args.id c.in-Some.place c.self.invariant.0 is side c.index_mut.ensures.value) in
    let all : behind_of c.pass-more.new.self ≡ total side.queue = ap behind_of c.pass-more.ensures.passed in
    let fits : octets_behind sides + total (queue_of c.args.id sides) < 2 ^ 64 = subst (λ (xs : List Side). octets_behind xs + total (queue_of c.args.id xs) < 2 ^ 64) (sym c.self.view_is) c.requires in
    let more = c.pass-more.ensures.more in
    let before = c.self.invariant.2 in
    omega (arith, own, all, fits, more, before)

pub invariant_of-self : goal.invariant_of-self
invariant_of-self c =
    let sides = c.self.inside.sides.items in
    let is : IsAt sides c.args.id c.in-Some.place = rw (← c.deref.ensures.value) c.in-Some.ensures.found in
    let side = c.index_mut.result.now in
    let some : AreSome c.pass-more.new.self.queue = subst (λ (s : Side). AreSome s.queue) (sym c.pass-more.ensures.passed) (some_read sides c.args.id c.in-Some.place c.self.invariant.0 is side c.index_mut.ensures.value c.self.invariant.1) in
    let changed = behind_changed sides c.in-Some.place side c.pass-more.new.self is.within c.index_mut.ensures.value in
    let more = c.pass-more.ensures.more in
    let before = c.self.invariant.2 in (
      rising_to sides c.args.id c.in-Some.place c.self.invariant.0 is side c.index_mut.ensures.value c.pass-more.new.self (ap (λ side. side.id) c.pass-more.ensures.passed),
      some_set sides c.in-Some.place c.pass-more.new.self c.self.invariant.1 some,
      omega (arith, changed, more, before),
    )

pub returns-in-Some : goal.returns-in-Some
returns-in-Some c =
    let sides = c.self.inside.sides.items in
    let is : IsAt sides c.args.id c.in-Some.place = rw (← c.deref.ensures.value) c.in-Some.ensures.found in
    changed_to sides c.args.id c.in-Some.place c.self.invariant.0 is c.index_mut.result.now c.index_mut.ensures.value passing c.pass-more.new.self c.pass-more.ensures.passed
    ∙ ap (change c.args.id passing) c.self.view_is

pub returns-in_default : goal.returns-in_default
returns-in_default c =
    let absent : find c.args.id c.self.inside.sides.items ≡ None = rw (← c.deref.ensures.value) c.in_default.ensures.absent in
    subst (λ (xs : List Side). xs ≡ change c.args.id passing xs) c.self.view_is (sym (change_none c.args.id passing c.self.inside.sides.items absent))
