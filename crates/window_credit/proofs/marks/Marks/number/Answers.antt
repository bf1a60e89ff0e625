use Rattle.std.proofs.Common.{sym, ap, ◌∙◌, Some}
use Rattle.std.specs.Prelude.{option_map}
use Rattle.window_credit.specs.Sides.{Side, number_of}
use Rattle.window_credit.specs.Places.{IsAt}
use Rattle.window_credit.proofs.Changing.{found}
use Rattle.window_credit.proofs.marks.Marks.number.Goals as goal

pub returns-in-Some : goal.returns-in-Some
returns-in-Some c =
    let sides = c.self.inside.sides.items in
    let is : IsAt sides c.args.id c.in-Some.place = rw (← c.deref.ensures.value) c.in-Some.ensures.found in
    ap Some c.number.ensures
    ∙ sym (ap (option_map (λ (side : Side). side.k)) (found sides c.args.id c.in-Some.place c.self.invariant.0 is c.index.result.now c.index.ensures))
    ∙ ap (number_of c.args.id) c.self.view_is
