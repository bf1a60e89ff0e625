use Rattle.std.proofs.Common.{◌≡◌, sym, ap, ◌∙◌, subst, set, List, None, OnOk}
use Rattle.local_replies.specs.Views.{cause_of}
use Rattle.theory_responses.specs.State.{Kept, State, find, change, answered}
use Rattle.send_queue.specs.Places.{IsAt}
use Rattle.send_queue.proofs.Rising.{change_none}
use Rattle.send_queue.proofs.Changing.{if_ok, sound_to, same_read, changed_to}
use Rattle.send_queue.proofs.offers.Offers.reply.Goals as goal

pub returns-in_default-clause-ok : goal.returns-in_default-clause-ok
returns-in_default-clause-ok c =
    let absent : find c.args.id c.self.inside.kept.items ≡ None = rw (← c.deref.ensures.value) c.in_default.ensures.absent in
    let same : change c.args.id (answered (cause_of c.args.cause)) c.self.inside.kept.items ≡ c.self.inside.kept.items = change_none c.args.id (answered (cause_of c.args.cause)) c.self.inside.kept.items absent in
    subst (λ (s : State). s ≡ record { kept = change c.args.id (answered (cause_of c.args.cause)) s.kept; last = s.last }) c.self.view_is
    (ap (λ (ks : List Kept). let it : State = record { kept = ks; last = c.self.inside.last } in it) (sym same))

pub invariant_of-self : goal.invariant_of-self
invariant_of-self c =
    let s : State = record { kept = c.self.inside.kept.items; last = c.self.inside.last } in
    let is : IsAt s.kept c.args.id c.in-Some.place = rw (← c.deref.ensures.value) c.in-Some.ensures.found in
    sound_to s c.args.id c.in-Some.place c.self.invariant.rising is c.index.result.now c.index.ensures c.self.inside.offered c.behind-self-inside.result c.self.invariant.told c.answer-answered.new.self c.index-2.result.now c.is_offered-had.result c.is_offered.result c.is_offered-had.ensures (c.answer-answered.ensures.id ∙ same_read s.kept c.in-Some.place c.index_mut.result.now c.index.result.now is.within c.index_mut.ensures.value c.index.ensures) c.index-2.ensures c.is_offered.ensures c.behind-self-inside.ensures

pub returns-clause-ok : goal.returns-clause-ok
returns-clause-ok c =
    let s : State = record { kept = c.self.inside.kept.items; last = c.self.inside.last } in
    let is : IsAt s.kept c.args.id c.in-Some.place = rw (← c.deref.ensures.value) c.in-Some.ensures.found in
    let new : State = record { kept = set s.kept c.in-Some.place c.answer-answered.new.self; last = s.last } in
    let replied : State → State = λ old. record { kept = change c.args.id (answered (cause_of c.args.cause)) old.kept; last = old.last } in
    subst (λ (old : State). OnOk c.answer-answered.result (new ≡ replied old)) c.self.view_is
    (if_ok (λ done. c.answer-answered.new.self ≡ answered (cause_of c.args.cause) c.index_mut.result.now) (λ done. new ≡ replied s) c.answer-answered.result c.answer-answered.ensures.ok (λ done changed.
    ap (λ (ks : List Kept). let it : State = record { kept = ks; last = s.last } in it) (changed_to s c.args.id c.in-Some.place c.self.invariant.rising is c.index_mut.result.now c.index_mut.ensures.value (answered (cause_of c.args.cause)) c.answer-answered.new.self changed)))
