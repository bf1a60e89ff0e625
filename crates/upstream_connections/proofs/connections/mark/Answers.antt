use Rattle.std.proofs.Common.{◌≡◌, ◌∙◌, Some, ap, sym}
use Rattle.std.specs.Prelude.{reverse, map, slice_set, slice_index_or}
use Rattle.std.proofs.lemmas.List.{get_or_read}
use Rattle.theory_requests.specs.Lines.{find}
use Rattle.upstream_connections.specs.Connections.{Connection, number_of, no_connection, marked_at, IsOpenAt, IsOpenNowhere}
use Rattle.upstream_connections.specs.Keys.{idle_route}
use Rattle.upstream_connections.specs.Progress.{answer_of}
use Rattle.upstream_connections.proofs.Openings.{found, not_found, marked_there, none_marked}
use Rattle.upstream_connections.proofs.Idling.{marked_found}
use Rattle.upstream_connections.proofs.connections.mark.Goals as goal

pub returns-in-Some : goal.returns-in-Some
returns-in-Some c =
    let cs = c.args.connections.now.items in
    let is : IsOpenAt cs c.args.k c.in-Some.place = rw (← c.deref.ensures.value) c.in-Some.ensures.found in
    let was = slice_index_or cs c.in-Some.place no_connection in
    let there : c.index_mut-connection.result.now ≡ was = get_or_read cs c.in-Some.place c.index_mut-connection.result.now is.within c.index_mut-connection.ensures.value no_connection in
    let now : c.mark.new.self ≡ record was { live = record was.live { answer = answer_of c.args.progress } } =
    c.mark.ensures ∙ ap (λ (x : Connection). let n : Connection = record x { live = record x.live { answer = answer_of c.args.progress } } in n) there in
    let marked : reverse (slice_set cs c.in-Some.place c.mark.new.self) ≡ map (marked_at c.args.k (answer_of c.args.progress)) (reverse cs) =
    ap (λ x. reverse (slice_set cs c.in-Some.place x)) now
    ∙ marked_there cs c.requires c.args.k c.in-Some.place is (answer_of c.args.progress) in
    record {
      marked = marked;
      idle =
          c.idle_route.ensures
          ∙ ap (λ x. idle_route (Some x)) now
          ∙ sym (ap idle_route (marked_found c.args.k (answer_of c.args.progress) (reverse cs) was (found cs c.requires c.args.k c.in-Some.place is)))
          ∙ sym (ap (λ ys. idle_route (find number_of c.args.k ys)) marked);
    }

pub returns-in-None : goal.returns-in-None
returns-in-None c =
    let cs = c.args.connections.now.items in
    let none : IsOpenNowhere cs c.args.k = rw (← c.deref.ensures.value) c.in-None.ensures.absent in
    record {
      marked = none_marked cs c.args.k none (answer_of c.args.progress);
      idle = sym (ap idle_route (not_found cs c.args.k none));
    }
