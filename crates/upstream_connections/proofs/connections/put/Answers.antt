use Rattle.std.proofs.Common.{◌≡◌, ◌+◌, ◌<◌, ◌^◌, ◌∙◌, ap, subst}
use Rattle.std.specs.Prelude.{Option, IfSome, reverse, slice_set, slice_index_or}
use Rattle.std.proofs.lemmas.List.{get_or_read}
use Rattle.upstream_connections.specs.Connections.{Connection, no_connection, IsOpenAt}
use Rattle.upstream_connections.proofs.Openings.{put_there, none_put, found}
use Rattle.upstream_connections.proofs.connections.put.Goals as goal

pub put-requires : goal.put-requires
put-requires c =
    let cs = c.args.connections.now.items in
    let is : IsOpenAt cs c.args.k c.in-Some.place = rw (← c.deref.ensures.value) c.in-Some.ensures.found in
    let there : c.index_mut.result.now ≡ slice_index_or cs c.in-Some.place no_connection = get_or_read cs c.in-Some.place c.index_mut.result.now is.within c.index_mut.ensures.value no_connection in
    rw there (subst (λ (o : Option Connection). IfSome o (λ (x : Connection). x.out + c.args.count < 2 ^ 64)) (found cs c.requires.rising c.args.k c.in-Some.place is) c.requires.fits)

pub returns-in-Some : goal.returns-in-Some
returns-in-Some c =
    let cs = c.args.connections.now.items in
    let is : IsOpenAt cs c.args.k c.in-Some.place = rw (← c.deref.ensures.value) c.in-Some.ensures.found in
    let there : c.index_mut.result.now ≡ slice_index_or cs c.in-Some.place no_connection = get_or_read cs c.in-Some.place c.index_mut.result.now is.within c.index_mut.ensures.value no_connection in
    ap (λ x. reverse (slice_set cs c.in-Some.place x)) (c.put.ensures ∙ ap (λ (x : Connection). let n : Connection = record x { out = x.out + c.args.count } in n) there)
    ∙ put_there cs c.requires.rising c.args.k c.in-Some.place is c.args.count

pub returns-in_default : goal.returns-in_default
returns-in_default c = none_put c.args.connections.now.items c.args.k (rw (← c.deref.ensures.value) c.in_default.ensures.absent) c.args.count
