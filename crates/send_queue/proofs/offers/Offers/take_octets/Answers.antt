use Rattle.std.proofs.Common.{sym, ap, ◌∙◌, subst, set}
use Rattle.theory_responses.specs.State.{State}
use Rattle.send_queue.specs.Places.{IsAt}
use Rattle.send_queue.specs.Asked.{part_for, are_octets}
use Rattle.send_queue.specs.Changes.{AreOctetsGone}
use Rattle.send_queue.proofs.Changing.{part_here, sound_to, same_read, octets_gone_to}
use Rattle.send_queue.proofs.offers.Offers.take_octets.Goals as goal

pub drop_octets-requires : goal.drop_octets-requires
drop_octets-requires c =
    let s : State = record { kept = c.self.inside.kept.items; last = c.self.inside.last } in
    let is : IsAt s.kept c.args.id c.in-Some.place = rw (← c.deref.ensures.value) c.in-Some.ensures.found in
    ap are_octets (sym (part_here s c.args.id c.in-Some.place c.self.invariant.rising is c.index_mut.result.now c.index_mut.ensures.value c.args.most))
    ∙ ap (λ (x : State). are_octets (part_for c.args.most c.args.id x.kept)) c.self.view_is
    ∙ c.requires

pub invariant_of-self : goal.invariant_of-self
invariant_of-self c =
    let s : State = record { kept = c.self.inside.kept.items; last = c.self.inside.last } in
    let is : IsAt s.kept c.args.id c.in-Some.place = rw (← c.deref.ensures.value) c.in-Some.ensures.found in
    sound_to s c.args.id c.in-Some.place c.self.invariant.rising is c.index.result.now c.index.ensures c.self.inside.offered c.behind-self-inside.result c.self.invariant.told c.drop_octets.new.self c.index-2.result.now c.is_offered-had.result c.is_offered.result c.is_offered-had.ensures (ap (λ k. k.id) c.drop_octets.ensures.is ∙ same_read s.kept c.in-Some.place c.index_mut.result.now c.index.result.now is.within c.index_mut.ensures.value c.index.ensures) c.index-2.ensures c.is_offered.ensures c.behind-self-inside.ensures

pub returns : goal.returns
returns c =
    let s : State = record { kept = c.self.inside.kept.items; last = c.self.inside.last } in
    let is : IsAt s.kept c.args.id c.in-Some.place = rw (← c.deref.ensures.value) c.in-Some.ensures.found in
    subst (λ (old : State). AreOctetsGone old c.args.id c.args.most (record { kept = set s.kept c.in-Some.place c.drop_octets.new.self; last = c.args.id })) c.self.view_is
    (octets_gone_to s c.args.id c.in-Some.place c.self.invariant.rising is c.index_mut.result.now c.index_mut.ensures.value c.drop_octets.new.self c.args.most c.drop_octets.ensures)
