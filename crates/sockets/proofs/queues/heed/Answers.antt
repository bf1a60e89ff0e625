use Rattle.std.proofs.Common.{rules, ◌≡◌, ◌<◌, ◌∙◌, inl, inr, get_or, length, refl, subst, sym, ap}
use Rattle.sockets.specs.Noting.{HasNoted}
use Rattle.sockets.specs.Performed.{IsOpenNowhere}
use Rattle.sockets.specs.Queues.{IsMarked}
use Rattle.sockets.specs.Tokens.{number_reported}
use Rattle.sockets.specs.Sides.{GoesOn, KeepsHeard, no_news, note_side}
use Rattle.sockets.specs.declared.upstream.Upstream.{Upstream}
use Rattle.sockets.proofs.Moving.{all_still, on_still, one_goes_on, on_listed}
use Rattle.sockets.proofs.Performing.{ok_then, one_changed}
use Rattle.sockets.proofs.Queueing.{grows_still, listed_at, listed_still, one_listed, marked_same}
use Rattle.sockets.proofs.queues.heed.Goals as goal

pub returns-in_default-clause-goes : goal.returns-in_default-clause-goes
returns-in_default-clause-goes g c = all_still _ _ c.args.upstreams.now.items

pub returns-in_default-clause-noted : goal.returns-in_default-clause-noted
returns-in_default-clause-noted g c =
    let us = c.args.upstreams.now.items in
    let number : c.number_in.result ≡ number_reported c.args.report.now = search rules in
    λ rising.
    let absent : IsOpenNowhere c.number_in.result us = rw (← c.deref.ensures.value) (c.in_default.ensures.absent (rw c.deref.ensures.value rising)) in
    inl (subst (λ k. IsOpenNowhere k us) number absent, refl)

pub returns-in_default-clause-ready : goal.returns-in_default-clause-ready
returns-in_default-clause-ready g c = grows_still c.args.ready.now.items

pub returns-clause-goes : goal.returns-clause-goes
returns-clause-goes g c =
    let us = c.args.upstreams.now.items in
    let place = c.in-Some.place in
    let first = c.index_mut-upstream.result.now in
    let within : place < length us = rw (← c.deref.ensures.value) c.in-Some.ensures.within in
    let listed : GoesOn g.S.Socket.left g.S.Socket.held no_news first c.list.new.upstream = on_listed _ _ no_news first c.heed.new.self c.list.new.upstream c.heed.ensures.goes c.list.ensures.stays in
    let goes : GoesOn g.S.Socket.left g.S.Socket.held no_news (get_or us place first) c.list.new.upstream =
    subst (λ u. GoesOn g.S.Socket.left g.S.Socket.held no_news u c.list.new.upstream) c.index_mut-upstream.ensures.value listed in
    one_goes_on _ _ no_news (on_still _ _) us place first c.list.new.upstream within goes

pub returns-clause-noted : goal.returns-clause-noted
returns-clause-noted g c =
    let us = c.args.upstreams.now.items in
    let report = c.args.report.now in
    let place = c.in-Some.place in
    let first = c.index_mut-upstream.result.now in
    let within : place < length us = rw (← c.deref.ensures.value) c.in-Some.ensures.within in
    let under : (get_or us place first).k ≡ c.number_in.result = rw (← c.deref.ensures.value) (c.in-Some.ensures.found first) in
    let number : c.number_in.result ≡ number_reported report = search rules in
    let found : (get_or us place first).k ≡ number_reported report = under ∙ number in
    let noted : HasNoted report first c.list.new.upstream =
    subst (λ (u : Upstream g.row.S.Denot). KeepsHeard (note_side report first.side) u.side) (sym c.list.ensures.stays) c.heed.ensures.noted in
    λ rising. inr (one_changed (HasNoted report) us place (number_reported report) first c.list.new.upstream within found
    (subst (λ u. HasNoted report u c.list.new.upstream) c.index_mut-upstream.ensures.value noted))

pub returns-clause-ready : goal.returns-clause-ready
returns-clause-ready g c = c.list.ensures.ready

pub returns-clause-listed : goal.returns-clause-listed
returns-clause-listed g c =
    let us = c.args.upstreams.now.items in
    let place = c.in-Some.place in
    let first = c.index_mut-upstream.result.now in
    let within : place < length us = rw (← c.deref.ensures.value) c.in-Some.ensures.within in
    let listed : GoesOn g.S.Socket.left g.S.Socket.held no_news first c.list.new.upstream = on_listed _ _ no_news first c.heed.new.self c.list.new.upstream c.heed.ensures.goes c.list.ensures.stays in
    ok_then c.list.result
    (λ make. λ before.
    let was : IsMarked c.args.ready.now.items c.args.writes.now.items first =
    subst (IsMarked c.args.ready.now.items c.args.writes.now.items) (sym c.index_mut-upstream.ensures.value) ((listed_at 0 _ _ us place first within before).marked) in
    let same : get_or us place first ≡ first = sym c.index_mut-upstream.ensures.value in
    one_listed first.k 0 _ _ _ _ us place first c.list.new.upstream (λ v other. listed_still _ _ _ _ v c.list.ensures.ready c.list.ensures.writes) within (ap (λ (u : Upstream g.row.S.Denot). u.k) same) listed.number
    (make (marked_same _ _ first c.heed.new.self c.heed.ensures.goes.number c.heed.ensures.stands.0 c.heed.ensures.stands.1 was)) before)
    c.list.ensures.listed
