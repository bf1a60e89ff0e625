use Rattle.std.proofs.Common.{◌≡◌, sym, ap, ◌∙◌, subst, refl, true, [], ◌∷◌, ◌++◌}
use Rattle.window_credit.specs.Sides.{Side, is_above_all, opened, octets_behind}
use Rattle.window_credit.specs.Places.{AreRising, AllAreSome}
use Rattle.window_credit.proofs.Rising.{rising_more}
use Rattle.window_credit.proofs.Counted.{some_joined}
use Rattle.window_credit.proofs.Behind.{behind_joined}
use Rattle.window_credit.proofs.marks.Marks.open.Goals as goal

pub invariant_of-self-2 : goal.invariant_of-self-2
invariant_of-self-2 c =
    let sides = c.self.inside.sides.items in
    let last : Side = opened c.args.id c.args.number c.args.put_out c.args.taken in
    let above : is_above_all c.args.id sides ≡ true = ap (is_above_all c.args.id) c.self.view_is ∙ c.requires.above in
    let pushed : c.push.new.self.items ≡ sides ++ last ∷ [] = c.in_ok-push.ensures.items ∙ ap (λ (side : Side). sides ++ side ∷ []) c.opened.ensures in (
      subst AreRising (sym pushed) (rising_more last sides above c.self.invariant.0),
      subst AllAreSome (sym pushed) (some_joined last sides tt c.self.invariant.1),
      ap octets_behind pushed ∙ behind_joined sides last refl ∙ c.self.invariant.2,
    )
