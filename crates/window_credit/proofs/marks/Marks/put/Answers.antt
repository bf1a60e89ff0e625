use Rattle.std.proofs.Common.{◌≡◌, ◌+◌, ◌<◌, ◌^◌, sym, ap, ◌∙◌, subst, List, None, Option}
use Rattle.std.specs.Prelude.{IfSome}
use Rattle.window_credit.specs.Counts.{AreSome}
use Rattle.window_credit.specs.Sides.{Side, find, change, putting, behind_of}
use Rattle.window_credit.specs.Places.{IsAt}
use Rattle.window_credit.proofs.Rising.{change_none}
use Rattle.window_credit.proofs.Changing.{found, some_read, changed_to, rising_to}
use Rattle.window_credit.proofs.Counted.{some_set}
use Rattle.window_credit.proofs.Behind.{behind_same}
use Rattle.window_credit.proofs.marks.Marks.put.Goals as goal

pub put-requires : goal.put-requires
put-requires c =
    let sides = c.self.inside.sides.items in
    let is : IsAt sides c.args.id c.in-Some.place = rw (← c.deref.ensures.value) c.in-Some.ensures.found in
    subst (λ (s : Option Side). IfSome s (λ side. side.out + c.args.count < 2 ^ 64)) (ap (find c.args.id) (sym c.self.view_is) ∙ found sides c.args.id c.in-Some.place c.self.invariant.0 is c.index_mut.result.now c.index_mut.ensures.value) c.requires

pub invariant_of-self : goal.invariant_of-self
invariant_of-self c =
    let sides = c.self.inside.sides.items in
    let is : IsAt sides c.args.id c.in-Some.place = rw (← c.deref.ensures.value) c.in-Some.ensures.found in
    let side = c.index_mut.result.now in
    let some : AreSome c.put.new.self.queue = subst (λ (s : Side). AreSome s.queue) (sym c.put.ensures) (some_read sides c.args.id c.in-Some.place c.self.invariant.0 is side c.index_mut.ensures.value c.self.invariant.1) in (
      rising_to sides c.args.id c.in-Some.place c.self.invariant.0 is side c.index_mut.ensures.value c.put.new.self (ap (λ side. side.id) c.put.ensures),
      some_set sides c.in-Some.place c.put.new.self c.self.invariant.1 some,
      behind_same sides c.in-Some.place side c.put.new.self is.within c.index_mut.ensures.value (ap behind_of c.put.ensures) ∙ c.self.invariant.2,
    )

pub returns-in-Some : goal.returns-in-Some
returns-in-Some c =
    let sides = c.self.inside.sides.items in
    let is : IsAt sides c.args.id c.in-Some.place = rw (← c.deref.ensures.value) c.in-Some.ensures.found in
    changed_to sides c.args.id c.in-Some.place c.self.invariant.0 is c.index_mut.result.now c.index_mut.ensures.value (putting c.args.count) c.put.new.self c.put.ensures
    ∙ ap (change c.args.id (putting c.args.count)) c.self.view_is

pub returns-in_default : goal.returns-in_default
returns-in_default c =
    let absent : find c.args.id c.self.inside.sides.items ≡ None = rw (← c.deref.ensures.value) c.in_default.ensures.absent in
    subst (λ (xs : List Side). xs ≡ change c.args.id (putting c.args.count) xs) c.self.view_is (sym (change_none c.args.id (putting c.args.count) c.self.inside.sides.items absent))
