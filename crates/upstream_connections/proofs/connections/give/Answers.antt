use Rattle.std.proofs.Common.{◌≡◌, ◌∙◌, ap}
use Rattle.std.specs.Prelude.{reverse, slice_set, slice_index_or}
use Rattle.std.proofs.lemmas.List.{get_or_read}
use Rattle.theory_requests.specs.Lines.Answer.{Pending}
use Rattle.upstream_connections.specs.Connections.{Connection, no_connection, IsOpenAt}
use Rattle.upstream_connections.proofs.Openings.{given_there, none_given}
use Rattle.upstream_connections.proofs.connections.give.Goals as goal

pub returns-in-Some : goal.returns-in-Some
returns-in-Some c =
    let cs = c.args.connections.now.items in
    let is : IsOpenAt cs c.args.k c.in-Some.place = rw (← c.deref.ensures.value) c.in-Some.ensures.found in
    let there : c.index_mut.result.now ≡ slice_index_or cs c.in-Some.place no_connection = get_or_read cs c.in-Some.place c.index_mut.result.now is.within c.index_mut.ensures.value no_connection in
    ap (λ x. reverse (slice_set cs c.in-Some.place x)) (c.give.ensures ∙ ap (λ (x : Connection). let n : Connection = record x { live = record x.live { stream = c.args.stream; answer = Pending }; answer = c.args.answer } in n) there)
    ∙ given_there cs c.requires c.args.k c.in-Some.place is c.args.stream c.args.answer

pub returns-in_default : goal.returns-in_default
returns-in_default c = none_given c.args.connections.now.items c.args.k (rw (← c.deref.ensures.value) c.in_default.ensures.absent) c.args.stream c.args.answer
