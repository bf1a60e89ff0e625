use Rattle.std.proofs.Common.{sym, ap, ◌∙◌}
use Rattle.window_credit.specs.Sides.{has_untaken, has_untaken_if}
use Rattle.window_credit.specs.Places.{IsAt}
use Rattle.window_credit.proofs.Changing.{found}
use Rattle.window_credit.proofs.marks.Marks.has_untaken.Goals as goal

pub returns-in-Some : goal.returns-in-Some
returns-in-Some c =
    let sides = c.self.inside.sides.items in
    let is : IsAt sides c.args.id c.in-Some.place = rw (← c.deref.ensures.value) c.in-Some.ensures.found in
    c.has_untaken.ensures
    ∙ sym (ap has_untaken_if (found sides c.args.id c.in-Some.place c.self.invariant.0 is c.index.result.now c.index.ensures))
    ∙ ap (has_untaken c.args.id) c.self.view_is
