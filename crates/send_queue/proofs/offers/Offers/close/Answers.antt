use Rattle.std.proofs.Common.{◌≡◌, sym, ap, ◌∙◌, subst, List, None}
use Rattle.theory_responses.specs.State.{Kept, State, find, without}
use Rattle.send_queue.specs.Places.{IsAt, AreSound}
use Rattle.send_queue.proofs.Rising.{without_at, without_none}
use Rattle.send_queue.proofs.Changing.{sound_without}
use Rattle.send_queue.proofs.offers.Offers.close.Goals as goal

pub invariant_of-self : goal.invariant_of-self
invariant_of-self c =
    let s : State = record { kept = c.self.inside.kept.items; last = c.self.inside.last } in
    let is : IsAt s.kept c.args.id c.in-Some.place = rw (← c.deref.ensures.value) c.in-Some.ensures.found in
    subst (λ (ks : List Kept). AreSound ks c.behind-self-inside.result) (sym c.remove_at.ensures)
    (sound_without s c.args.id c.in-Some.place c.self.invariant.rising is c.index.result.now c.index.ensures c.self.inside.offered c.behind-self-inside.result c.self.invariant.told c.is_offered-had.result c.is_offered-had.ensures c.behind-self-inside.ensures)

pub returns-in-Some : goal.returns-in-Some
returns-in-Some c =
    let ks = c.self.inside.kept.items in
    let is : IsAt ks c.args.id c.in-Some.place = rw (← c.deref.ensures.value) c.in-Some.ensures.found in
    ap (λ (xs : List Kept). let it : State = record { kept = xs; last = c.self.inside.last } in it) (c.remove_at.ensures ∙ sym (without_at c.args.id ks c.in-Some.place c.self.invariant.rising is))
    ∙ ap (λ (s : State). let it : State = record { kept = without c.args.id s.kept; last = s.last } in it) c.self.view_is

pub returns-in_default : goal.returns-in_default
returns-in_default c =
    let absent : find c.args.id c.self.inside.kept.items ≡ None = rw (← c.deref.ensures.value) c.in_default.ensures.absent in
    subst (λ (s : State). s ≡ record { kept = without c.args.id s.kept; last = s.last }) c.self.view_is
    (ap (λ (ks : List Kept). let it : State = record { kept = ks; last = c.self.inside.last } in it) (sym (without_none c.args.id c.self.inside.kept.items absent)))
