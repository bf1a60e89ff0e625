use Rattle.std.proofs.Common.{◌≡◌, sym, ap, ◌∙◌, subst, true, List, [], ◌∷◌, ◌++◌}
use Rattle.theory_responses.specs.State.{Kept, State, blank}
use Rattle.send_queue.specs.Places.{AreSound}
use Rattle.send_queue.specs.Asked.{is_above_all}
use Rattle.send_queue.proofs.Rising.{rising_more}
use Rattle.send_queue.proofs.OnOffer.{told_more}
use Rattle.send_queue.proofs.offers.Offers.open.Goals as goal

pub invariant_of-self-2 : goal.invariant_of-self-2
invariant_of-self-2 c =
    let above : is_above_all c.args.id c.self.inside.kept.items ≡ true = ap (λ (s : State). is_above_all c.args.id s.kept) c.self.view_is ∙ c.requires in
    let pushed : c.push.new.self.items ≡ c.self.inside.kept.items ++ blank c.args.id ∷ [] = c.in_ok-push.ensures.items ∙ ap (λ (k : Kept). c.self.inside.kept.items ++ k ∷ []) c.new.ensures in
    subst (λ (ks : List Kept). AreSound ks c.self.inside.offered) (sym pushed) (record { rising = rising_more c.args.id c.self.inside.kept.items above c.self.invariant.rising; told = told_more c.self.inside.offered c.self.inside.kept.items c.self.invariant.told c.args.id })
