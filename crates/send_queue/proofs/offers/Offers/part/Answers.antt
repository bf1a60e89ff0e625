use Rattle.std.proofs.Common.{◌≡◌, sym, ap, ◌∙◌}
use Rattle.std.specs.Prelude.{option_map}
use Rattle.send_buffer.specs.Views.{part_in}
use Rattle.theory_responses.specs.State.{State}
use Rattle.send_queue.specs.Places.{IsAt}
use Rattle.send_queue.specs.Asked.{part_for, is_head, are_trailers}
use Rattle.send_queue.proofs.Heads.{head_for, trailers_for}
use Rattle.send_queue.proofs.Changing.{part_here}
use Rattle.send_queue.proofs.offers.Offers.part.Goals as goal

pub returns-clause-is : goal.returns-clause-is
returns-clause-is c =
    let s : State = record { kept = c.self.inside.kept.items; last = c.self.inside.last } in
    let is : IsAt s.kept c.args.id c.in-Some.place = rw (← c.deref.ensures.value) c.in-Some.ensures.found in
    c.next.ensures
    ∙ sym (part_here s c.args.id c.in-Some.place c.self.invariant.rising is c.index.result.now c.index.ensures c.args.most)
    ∙ ap (λ (x : State). part_for c.args.most c.args.id x.kept) c.self.view_is

pub returns-clause-head : goal.returns-clause-head
returns-clause-head c =
    let s : State = record { kept = c.self.inside.kept.items; last = c.self.inside.last } in
    let is : IsAt s.kept c.args.id c.in-Some.place = rw (← c.deref.ensures.value) c.in-Some.ensures.found in
    let part : option_map part_in c.next.result ≡ part_for c.args.most c.args.id s.kept = c.next.ensures ∙ sym (part_here s c.args.id c.in-Some.place c.self.invariant.rising is c.index.result.now c.index.ensures c.args.most) in
    ap is_head part ∙ head_for c.args.most c.args.id s.kept ∙ ap (λ (x : State). is_head (part_for 1 c.args.id x.kept)) c.self.view_is

pub returns-clause-trailers : goal.returns-clause-trailers
returns-clause-trailers c =
    let s : State = record { kept = c.self.inside.kept.items; last = c.self.inside.last } in
    let is : IsAt s.kept c.args.id c.in-Some.place = rw (← c.deref.ensures.value) c.in-Some.ensures.found in
    let part : option_map part_in c.next.result ≡ part_for c.args.most c.args.id s.kept = c.next.ensures ∙ sym (part_here s c.args.id c.in-Some.place c.self.invariant.rising is c.index.result.now c.index.ensures c.args.most) in
    ap are_trailers part ∙ trailers_for c.args.most c.args.id s.kept ∙ ap (λ (x : State). are_trailers (part_for 1 c.args.id x.kept)) c.self.view_is
