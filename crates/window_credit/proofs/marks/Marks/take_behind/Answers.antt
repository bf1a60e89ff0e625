use Rattle.std.proofs.Common.{◌≡◌, List, sym, ap, ◌∙◌, subst, arith}
use Rattle.window_credit.specs.Sides.{Side, octets_behind, taking_on, taking_behind, released_behind}
use Rattle.window_credit.specs.Places.{AreRising, AllAreSome}
use Rattle.window_credit.proofs.Rising.{rising_mapped}
use Rattle.window_credit.proofs.Counted.{some_taken}
use Rattle.window_credit.proofs.Taking.{keeps_id}
use Rattle.window_credit.proofs.Behind.{all_parts, none_taken}
use Rattle.window_credit.proofs.marks.Marks.take_behind.Goals as goal

pub returns-then-self-eq0-clause-released : goal.returns-then-self-eq0-clause-released
returns-then-self-eq0-clause-released c =
    let sides = c.self.inside.sides.items in
    sym (none_taken c.args.number c.args.taken sides c.self.invariant.1 (c.self.invariant.2 ∙ c.if-self-eq0.true)).1
    ∙ ap (λ (xs : List Side). released_behind c.args.number c.args.taken xs) c.self.view_is

pub returns-then-self-eq0-clause-kept : goal.returns-then-self-eq0-clause-kept
returns-then-self-eq0-clause-kept c =
    let sides = c.self.inside.sides.items in
    subst (λ (xs : List Side). xs ≡ taking_behind c.args.number c.args.taken xs) c.self.view_is
    (sym (none_taken c.args.number c.args.taken sides c.self.invariant.1 (c.self.invariant.2 ∙ c.if-self-eq0.true)).0)

pub overflow_sub-self : goal.overflow_sub-self
overflow_sub-self c =
    let all = all_parts c.args.number c.args.taken c.self.inside.sides.items in
    let own = c.take_from_all-count.ensures.released in
    let before = c.self.invariant.2 in
    omega (arith, all, own, before)

pub invariant_of-self : goal.invariant_of-self
invariant_of-self c =
    let sides = c.self.inside.sides.items in
    let left = c.take_from_all-count.ensures.kept in
    let all = all_parts c.args.number c.args.taken sides in
    let own = c.take_from_all-count.ensures.released in
    let before = c.self.invariant.2 in (
      subst AreRising (sym left) (rising_mapped (taking_on c.args.number c.args.taken) sides (keeps_id c.args.number c.args.taken) c.self.invariant.0),
      subst AllAreSome (sym left) (some_taken c.args.number c.args.taken sides c.self.invariant.1),
      ap octets_behind left ∙ omega (arith, all, own, before),
    )
