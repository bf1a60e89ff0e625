use Rattle.std.proofs.Common.{sym, ap, ◌∙◌, subst, set}
use Rattle.theory_responses.specs.State.{State}
use Rattle.send_queue.specs.Places.{IsAt}
use Rattle.send_queue.specs.Asked.{part_for, is_head}
use Rattle.send_queue.specs.Changes.{IsHeadGone}
use Rattle.send_queue.proofs.Changing.{part_here, sound_to, same_read, head_gone_to}
use Rattle.send_queue.proofs.offers.Offers.take_head.Goals as goal

pub take_head-head-requires : goal.take_head-head-requires
take_head-head-requires c =
    let s : State = record { kept = c.self.inside.kept.items; last = c.self.inside.last } in
    let is : IsAt s.kept c.args.id c.in-Some.place = rw (← c.deref.ensures.value) c.in-Some.ensures.found in
    ap is_head (sym (part_here s c.args.id c.in-Some.place c.self.invariant.rising is c.index_mut.result.now c.index_mut.ensures.value 1))
    ∙ ap (λ (x : State). is_head (part_for 1 c.args.id x.kept)) c.self.view_is
    ∙ c.requires

pub invariant_of-self : goal.invariant_of-self
invariant_of-self c =
    let s : State = record { kept = c.self.inside.kept.items; last = c.self.inside.last } in
    let is : IsAt s.kept c.args.id c.in-Some.place = rw (← c.deref.ensures.value) c.in-Some.ensures.found in
    sound_to s c.args.id c.in-Some.place c.self.invariant.rising is c.index.result.now c.index.ensures c.self.inside.offered c.behind-self-inside.result c.self.invariant.told c.take_head-head.new.self c.index-2.result.now c.is_offered-had.result c.is_offered.result c.is_offered-had.ensures (ap (λ k. k.id) c.take_head-head.ensures.is ∙ same_read s.kept c.in-Some.place c.index_mut.result.now c.index.result.now is.within c.index_mut.ensures.value c.index.ensures) c.index-2.ensures c.is_offered.ensures c.behind-self-inside.ensures

pub returns : goal.returns
returns c =
    let s : State = record { kept = c.self.inside.kept.items; last = c.self.inside.last } in
    let is : IsAt s.kept c.args.id c.in-Some.place = rw (← c.deref.ensures.value) c.in-Some.ensures.found in
    subst (λ (old : State). IsHeadGone old c.args.id c.take_head-head.result (record { kept = set s.kept c.in-Some.place c.take_head-head.new.self; last = c.args.id })) c.self.view_is
    (head_gone_to s c.args.id c.in-Some.place c.self.invariant.rising is c.index_mut.result.now c.index_mut.ensures.value c.take_head-head.new.self c.take_head-head.result c.take_head-head.ensures)
