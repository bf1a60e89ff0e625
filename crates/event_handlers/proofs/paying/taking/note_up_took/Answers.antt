use Rattle.std.proofs.Common.{◌≡◌, ℕ, List, map, sym, ◌∙◌, ap, subst}
use Rattle.std.specs.Prelude.{IfSome}
use Rattle.model.specs.Logs.Event.{UpTook}
use Rattle.model.specs.Tapes.Entry.{Happened}
use Rattle.theory_receive_windows.specs.Marks.{released}
use Rattle.theory_requests.specs.Lines.{find}
use Rattle.upstream_connections.specs.Kept.{State}
use Rattle.upstream_connections.specs.Connections.{number_of, taken_at}
use Rattle.window_credit.specs.Sides.{Side, MayTake, queue_of, released_behind, taken_of_all}
use Rattle.window_credit.specs.Sides.{find as find_side}
use Rattle.refinement.specs.View.{View, balanced}
use Rattle.refinement.specs.Bringing.{Brings}
use Rattle.event_handlers.specs.paying.Returning.{back_on}
use Rattle.event_handlers.specs.paying.Taking.{MayBeTaken, took_if, took_then, own_released, older_released}
use Rattle.event_handlers.proofs.paying.Noting.{took_of_stream, marks_have, took_after}
use Rattle.event_handlers.proofs.paying.taking.note_up_took.Goals as goal

-- so many are taken by now
taken_now : (old : View) (k count taken : ℕ) (u : State) → u ≡ record old.upstreams { live = map (taken_at k count) old.upstreams.live } → taken ≡ took_if (find number_of k u.live) → MayBeTaken old.upstreams.live k count → taken ≡ took_then k count old
taken_now old k count taken u kept is may = is ∙ ap (λ (x : State). took_if (find number_of k x.live)) kept ∙ took_after k count old.upstreams.live may.connection may.found

pub take-requires-2 : goal.take-requires-2
take-requires-2 c =
    let r = c.requires.reached in
    let upstreams_are = c.take.ensures ∙ ap (λ (v : View). record v.upstreams { live = map (taken_at c.args.k c.args.count) v.upstreams.live }) c.session.view_is in
    let taken_is = taken_now c.args.session.now c.args.k c.args.count c.taken_of-taken.result c.take.new.self upstreams_are c.taken_of-taken.ensures c.requires.within in
    subst (λ n. IfSome (find_side c.args.stream c.session.inside.marks) (MayTake n)) (sym taken_is)
    (subst (λ (v : View). IfSome (find_side c.args.stream v.marks) (MayTake (took_then c.args.k c.args.count c.args.session.now))) (sym c.session.view_is)
    (marks_have c.args.session.now c.args.k c.args.stream c.args.count c.requires.within c.requires.stream r.0 c.requires.rest r.1))

pub returns-clause-counts : goal.returns-clause-counts
returns-clause-counts c =
    let upstreams_are = c.take.ensures ∙ ap (λ (v : View). record v.upstreams { live = map (taken_at c.args.k c.args.count) v.upstreams.live }) c.session.view_is in
    let taken_is = taken_now c.args.session.now c.args.k c.args.count c.taken_of-taken.result c.take.new.self upstreams_are c.taken_of-taken.ensures c.requires.within in
    ap (λ (u : State). record { inbound = c.session.inside.inbound; offers = c.session.inside.offers; upstreams = u; marks = c.take-2.new.self; encoding = c.session.inside.encoder; untaken = c.session.inside.untaken }) c.take.ensures
    ∙ ap (λ (sides : List Side). record { inbound = c.session.inside.inbound; offers = c.session.inside.offers; upstreams = record c.session.inside.upstreams { live = map (taken_at c.args.k c.args.count) c.session.inside.upstreams.live }; marks = sides; encoding = c.session.inside.encoder; untaken = c.session.inside.untaken })
    (c.take-2.ensures.kept ∙ ap (λ n. taken_of_all c.args.stream c.args.k n c.session.inside.marks) taken_is)
    ∙ ap (λ (v : View). record v { upstreams = record v.upstreams { live = map (taken_at c.args.k c.args.count) v.upstreams.live }; marks = taken_of_all c.args.stream c.args.k (took_then c.args.k c.args.count c.args.session.now) v.marks }) c.session.view_is

pub returns-clause-own : goal.returns-clause-own
returns-clause-own c =
    let upstreams_are = c.take.ensures ∙ ap (λ (v : View). record v.upstreams { live = map (taken_at c.args.k c.args.count) v.upstreams.live }) c.session.view_is in
    let taken_is = taken_now c.args.session.now c.args.k c.args.count c.taken_of-taken.result c.take.new.self upstreams_are c.taken_of-taken.ensures c.requires.within in
    c.take-2.ensures.own
    ∙ ap (λ n. released n (queue_of c.args.stream c.session.inside.marks)) taken_is
    ∙ ap (λ (v : View). released (took_then c.args.k c.args.count c.args.session.now) (queue_of c.args.stream v.marks)) c.session.view_is

pub returns-clause-older : goal.returns-clause-older
returns-clause-older c =
    let upstreams_are = c.take.ensures ∙ ap (λ (v : View). record v.upstreams { live = map (taken_at c.args.k c.args.count) v.upstreams.live }) c.session.view_is in
    let taken_is = taken_now c.args.session.now c.args.k c.args.count c.taken_of-taken.result c.take.new.self upstreams_are c.taken_of-taken.ensures c.requires.within in
    c.take-2.ensures.older
    ∙ ap (λ n. released_behind c.args.k n c.session.inside.marks) taken_is
    ∙ ap (λ (v : View). released_behind c.args.k (took_then c.args.k c.args.count c.args.session.now) v.marks) c.session.view_is

pub returns-clause-brings : goal.returns-clause-brings
returns-clause-brings c = λ setup outputs.
    let view_is = returns-clause-counts c in
    let own_is = returns-clause-own c in
    let older_is = returns-clause-older c in
    let new : View = record { inbound = c.session.inside.inbound; offers = c.session.inside.offers; upstreams = c.take.new.self; marks = c.take-2.new.self; encoding = c.session.inside.encoder; untaken = c.session.inside.untaken } in
    subst (λ n. Brings setup c.args.session.now balanced outputs (Happened (UpTook c.args.k c.args.count)) new (back_on c.args.stream (record { own = n; older = c.take-2.result.older })) outputs) (sym own_is)
    (subst (λ n. Brings setup c.args.session.now balanced outputs (Happened (UpTook c.args.k c.args.count)) new (back_on c.args.stream (record { own = own_released c.args.k c.args.stream c.args.count c.args.session.now; older = n })) outputs) (sym older_is)
    (subst (λ (v : View). Brings setup c.args.session.now balanced outputs (Happened (UpTook c.args.k c.args.count)) v (back_on c.args.stream (record { own = own_released c.args.k c.args.stream c.args.count c.args.session.now; older = older_released c.args.k c.args.count c.args.session.now })) outputs) (sym view_is)
    (took_of_stream c.args.session.now c.args.k c.args.stream c.args.count c.requires.within c.requires.stream setup c.requires.rest outputs)))
