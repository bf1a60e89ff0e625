use Rattle.std.proofs.Common.{◌∙◌, subst, set, IfOk}
use Rattle.theory_responses.specs.State.{State}
use Rattle.upstream_response.specs.Hearing.{IsHeard}
use Rattle.send_queue.specs.Places.{IsAt}
use Rattle.send_queue.specs.Changes.{IsHeardFor}
use Rattle.send_queue.proofs.Changing.{if_ok, sound_to, same_read, heard_to}
use Rattle.send_queue.proofs.offers.Offers.hear.Goals as goal

pub invariant_of-self : goal.invariant_of-self
invariant_of-self c =
    let s : State = record { kept = c.self.inside.kept.items; last = c.self.inside.last } in
    let is : IsAt s.kept c.args.id c.in-Some.place = rw (← c.deref.ensures.value) c.in-Some.ensures.found in
    sound_to s c.args.id c.in-Some.place c.self.invariant.rising is c.index.result.now c.index.ensures c.self.inside.offered c.behind-self-inside.result c.self.invariant.told c.hear-heard.new.self c.index-2.result.now c.is_offered-had.result c.is_offered.result c.is_offered-had.ensures (c.hear-heard.ensures.id ∙ same_read s.kept c.in-Some.place c.index_mut.result.now c.index.result.now is.within c.index_mut.ensures.value c.index.ensures) c.index-2.ensures c.is_offered.ensures c.behind-self-inside.ensures

pub returns : goal.returns
returns c =
    let s : State = record { kept = c.self.inside.kept.items; last = c.self.inside.last } in
    let is : IsAt s.kept c.args.id c.in-Some.place = rw (← c.deref.ensures.value) c.in-Some.ensures.found in
    let new : State = record { kept = set s.kept c.in-Some.place c.hear-heard.new.self; last = s.last } in
    subst (λ (old : State). IfOk c.hear-heard.result (λ heard. IsHeardFor old c.args.id c.args.answer.now c.args.octets.now heard c.hear-heard.new.answer new)) c.self.view_is
    (if_ok (λ heard. IsHeard c.args.answer.now c.args.octets.now c.index_mut.result.now.box heard c.hear-heard.new.answer c.hear-heard.new.self.box) (λ heard. IsHeardFor s c.args.id c.args.answer.now c.args.octets.now heard c.hear-heard.new.answer new) c.hear-heard.result c.hear-heard.ensures.heard (λ heard hears. heard_to s c.args.id c.in-Some.place c.self.invariant.rising is c.index_mut.result.now c.index_mut.ensures.value c.hear-heard.new.self c.args.answer.now c.hear-heard.new.answer c.args.octets.now heard c.hear-heard.ensures.id c.hear-heard.ensures.cut hears))
