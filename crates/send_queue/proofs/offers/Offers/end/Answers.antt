use Rattle.std.proofs.Common.{◌∙◌, subst, set, IfOk}
use Rattle.theory_responses.specs.State.{State}
use Rattle.upstream_response.specs.Hearing.{IsEnded}
use Rattle.send_queue.specs.Places.{IsAt}
use Rattle.send_queue.specs.Changes.{IsEndedFor}
use Rattle.send_queue.proofs.Changing.{if_ok, sound_to, same_read, ended_to}
use Rattle.send_queue.proofs.offers.Offers.end.Goals as goal

pub invariant_of-self : goal.invariant_of-self
invariant_of-self c =
    let s : State = record { kept = c.self.inside.kept.items; last = c.self.inside.last } in
    let is : IsAt s.kept c.args.id c.in-Some.place = rw (← c.deref.ensures.value) c.in-Some.ensures.found in
    sound_to s c.args.id c.in-Some.place c.self.invariant.rising is c.index.result.now c.index.ensures c.self.inside.offered c.behind-self-inside.result c.self.invariant.told c.end-ended.new.self c.index-2.result.now c.is_offered-had.result c.is_offered.result c.is_offered-had.ensures (c.end-ended.ensures.id ∙ same_read s.kept c.in-Some.place c.index_mut.result.now c.index.result.now is.within c.index_mut.ensures.value c.index.ensures) c.index-2.ensures c.is_offered.ensures c.behind-self-inside.ensures

pub returns : goal.returns
returns c =
    let s : State = record { kept = c.self.inside.kept.items; last = c.self.inside.last } in
    let is : IsAt s.kept c.args.id c.in-Some.place = rw (← c.deref.ensures.value) c.in-Some.ensures.found in
    let new : State = record { kept = set s.kept c.in-Some.place c.end-ended.new.self; last = s.last } in
    subst (λ (old : State). IfOk c.end-ended.result (λ ended. IsEndedFor old c.args.id c.args.answer.now ended new)) c.self.view_is
    (if_ok (λ ended. IsEnded c.args.answer.now c.index_mut.result.now.box ended c.end-ended.new.self.box) (λ ended. IsEndedFor s c.args.id c.args.answer.now ended new) c.end-ended.result c.end-ended.ensures.ended (λ ended hears. ended_to s c.args.id c.in-Some.place c.self.invariant.rising is c.index_mut.result.now c.index_mut.ensures.value c.end-ended.new.self c.args.answer.now ended c.end-ended.ensures.id c.end-ended.ensures.cut hears))
