use Rattle.std.proofs.Common.{rules, ◌≡◌, true, false, [], sym, ap, ◌∙◌, subst}
use Rattle.std.specs.Prelude.{reverse, Some, None, slice_index_or}
use Rattle.std.proofs.lemmas.List.{get_or_read}
use Rattle.std.proofs.lemmas.Result.{IfOk-weaker}
use Rattle.theory_requests.specs.Held.{AreApart}
use Rattle.theory_requests.specs.State.{Held, held_of}
use Rattle.theory_requests.proofs.Served.{apart_with, apart_without}
use Rattle.upstream_connections.specs.Requests.{no_held, due_by, IsHeldAt, MayTake, MayTakeOf, GoesBy}
use Rattle.upstream_connections.proofs.Requests.{none_there, stays_there, goes_there, ends_there, may_there, held_on, taken_out}
use Rattle.upstream_connections.proofs.held.take_body.Goals as goal

pub returns-in_default-clause-takes : goal.returns-in_default-clause-takes
returns-in_default-clause-takes c = none_there c.args.held.now.items c.args.id (rw (← c.deref.ensures.value) c.in_default.ensures.absent) c.args.octets.now c.args.trailers.now c.args.ends

pub go_on-requires : goal.go_on-requires
go_on-requires c =
    let is : IsHeldAt c.args.held.now.items c.args.id c.in-Some.place = rw (← c.deref.ensures.value) c.in-Some.ensures.found in
    let there : c.index_mut.result.now ≡ slice_index_or c.args.held.now.items c.in-Some.place no_held = get_or_read c.args.held.now.items c.in-Some.place c.index_mut.result.now is.within c.index_mut.ensures.value no_held in
    let ends : c.args.ends ≡ false = search rules in
    let may : MayTakeOf c.args.octets.now false (held_of c.args.id (reverse c.args.held.now.items)) = subst (λ b. MayTakeOf c.args.octets.now b (held_of c.args.id (reverse c.args.held.now.items))) ends c.requires.may in
    subst (λ (h : Held). MayTake c.args.octets.now false h.way) (sym there) (may_there c.args.held.now.items c.requires.apart c.args.id c.in-Some.place is c.args.octets.now false may)

pub returns-then-not-ends-clause-takes : goal.returns-then-not-ends-clause-takes
returns-then-not-ends-clause-takes c =
    let is : IsHeldAt c.args.held.now.items c.args.id c.in-Some.place = rw (← c.deref.ensures.value) c.in-Some.ensures.found in
    let there : c.index_mut.result.now ≡ slice_index_or c.args.held.now.items c.in-Some.place no_held = get_or_read c.args.held.now.items c.in-Some.place c.index_mut.result.now is.within c.index_mut.ensures.value no_held in
    let ends : c.args.ends ≡ false = search rules in
    IfOk-weaker c.go_on.result
    (λ due. GoesBy [] c.index_mut.result.now.id c.args.octets.now c.args.trailers.now false c.index_mut.result.now.way (due_by due) (Some c.go_on.new.self.way))
    _
    (λ due goes. goes_there c.args.held.now.items c.requires.apart c.args.id c.in-Some.place is c.args.octets.now c.args.trailers.now c.args.ends (due_by due) c.go_on.new.self ends (c.go_on.ensures.same ∙ ap (λ (h : Held). h.id) there)
    (subst (λ (h : Held). GoesBy [] h.id c.args.octets.now c.args.trailers.now false h.way (due_by due) (Some c.go_on.new.self.way)) there goes))
    c.go_on.ensures.goes

pub returns-then-not-ends-clause-apart : goal.returns-then-not-ends-clause-apart
returns-then-not-ends-clause-apart c =
    let is : IsHeldAt c.args.held.now.items c.args.id c.in-Some.place = rw (← c.deref.ensures.value) c.in-Some.ensures.found in
    let there : c.index_mut.result.now ≡ slice_index_or c.args.held.now.items c.in-Some.place no_held = get_or_read c.args.held.now.items c.in-Some.place c.index_mut.result.now is.within c.index_mut.ensures.value no_held in
    subst AreApart (sym (held_on c.args.held.now.items c.requires.apart c.args.id c.in-Some.place is c.go_on.new.self (c.go_on.ensures.same ∙ ap (λ (h : Held). h.id) there)))
    (apart_with c.args.id (Some c.go_on.new.self.way) (reverse c.args.held.now.items) c.requires.apart)

pub returns-then-is_dropped-clause-takes : goal.returns-then-is_dropped-clause-takes
returns-then-is_dropped-clause-takes c =
    let is : IsHeldAt c.args.held.now.items c.args.id c.in-Some.place = rw (← c.deref.ensures.value) c.in-Some.ensures.found in
    let there : c.index.result.now ≡ slice_index_or c.args.held.now.items c.in-Some.place no_held = get_or_read c.args.held.now.items c.in-Some.place c.index.result.now is.within c.index.ensures no_held in
    stays_there c.args.held.now.items c.requires.apart c.args.id c.in-Some.place is c.args.octets.now c.args.trailers.now c.args.ends (sym (ap (λ (h : Held). h.way) there) ∙ c.if-is_dropped.ensures)

pub finish-requires-clause-may : goal.finish-requires-clause-may
finish-requires-clause-may c =
    let is : IsHeldAt c.args.held.now.items c.args.id c.in-Some.place = rw (← c.deref.ensures.value) c.in-Some.ensures.found in
    let out : c.remove.result ≡ slice_index_or c.args.held.now.items c.in-Some.place no_held = get_or_read c.args.held.now.items c.in-Some.place c.remove.result is.within c.remove.ensures.value no_held in
    let ends : c.args.ends ≡ true = search rules in
    let may : MayTakeOf c.args.octets.now true (held_of c.args.id (reverse c.args.held.now.items)) = subst (λ b. MayTakeOf c.args.octets.now b (held_of c.args.id (reverse c.args.held.now.items))) ends c.requires.may in
    subst (λ (h : Held). MayTake c.args.octets.now true h.way) (sym out) (may_there c.args.held.now.items c.requires.apart c.args.id c.in-Some.place is c.args.octets.now true may)

pub finish-requires-clause-on : goal.finish-requires-clause-on
finish-requires-clause-on c =
    let is : IsHeldAt c.args.held.now.items c.args.id c.in-Some.place = rw (← c.deref.ensures.value) c.in-Some.ensures.found in
    let there : c.index.result.now ≡ slice_index_or c.args.held.now.items c.in-Some.place no_held = get_or_read c.args.held.now.items c.in-Some.place c.index.result.now is.within c.index.ensures no_held in
    let out : c.remove.result ≡ slice_index_or c.args.held.now.items c.in-Some.place no_held = get_or_read c.args.held.now.items c.in-Some.place c.remove.result is.within c.remove.ensures.value no_held in
    λ dropped. c.if-is_dropped.ensures (ap (λ (h : Held). h.way) (there ∙ sym out) ∙ dropped)

pub returns-clause-takes : goal.returns-clause-takes
returns-clause-takes c =
    let is : IsHeldAt c.args.held.now.items c.args.id c.in-Some.place = rw (← c.deref.ensures.value) c.in-Some.ensures.found in
    let there : c.index.result.now ≡ slice_index_or c.args.held.now.items c.in-Some.place no_held = get_or_read c.args.held.now.items c.in-Some.place c.index.result.now is.within c.index.ensures no_held in
    let out : c.remove.result ≡ slice_index_or c.args.held.now.items c.in-Some.place no_held = get_or_read c.args.held.now.items c.in-Some.place c.remove.result is.within c.remove.ensures.value no_held in
    let ends : c.args.ends ≡ true = search rules in
    IfOk-weaker c.finish.result
    (λ due. GoesBy [] c.remove.result.id c.args.octets.now c.args.trailers.now true c.remove.result.way (due_by due) None)
    _
    (λ due goes. ends_there c.args.held.now.items c.requires.apart c.args.id c.in-Some.place is c.args.octets.now c.args.trailers.now c.args.ends (due_by due) c.remove.new.self.items ends c.remove.ensures.items (λ dropped. c.if-is_dropped.ensures (ap (λ (h : Held). h.way) there ∙ dropped))
    (subst (λ (h : Held). GoesBy [] h.id c.args.octets.now c.args.trailers.now true h.way (due_by due) None) out goes))
    c.finish.ensures

pub returns-clause-apart : goal.returns-clause-apart
returns-clause-apart c =
    let is : IsHeldAt c.args.held.now.items c.args.id c.in-Some.place = rw (← c.deref.ensures.value) c.in-Some.ensures.found in
    subst (λ hs. AreApart (reverse hs)) (sym c.remove.ensures.items)
    (subst AreApart (taken_out c.args.held.now.items c.requires.apart c.args.id c.in-Some.place is) (apart_without c.args.id (reverse c.args.held.now.items) c.requires.apart))
