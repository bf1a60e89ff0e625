use Rattle.std.proofs.Common.{◌≡◌, ◌<◌, get_or, length, subst, sym, ap}
use Rattle.sockets.specs.Queues.{IsMarked}
use Rattle.sockets.specs.Sides.{GoesOn, no_news}
use Rattle.sockets.specs.declared.upstream.Upstream.{Upstream}
use Rattle.sockets.proofs.Moving.{all_still, on_still, one_goes_on, on_listed}
use Rattle.sockets.proofs.Queueing.{grows_still, listed_at, listed_still, one_listed, marked_same}
use Rattle.sockets.proofs.queues.give_up.Goals as goal

pub returns-in_default-clause-goes : goal.returns-in_default-clause-goes
returns-in_default-clause-goes g c = all_still _ _ c.args.upstreams.now.items

pub returns-in_default-clause-ready : goal.returns-in_default-clause-ready
returns-in_default-clause-ready g c = grows_still c.args.ready.now.items

pub returns-in_err-list-clause-goes : goal.returns-in_err-list-clause-goes
returns-in_err-list-clause-goes g c =
    let us = c.args.upstreams.now.items in
    let place = c.in-Some.place in
    let first = c.index_mut-upstream.result.now in
    let within : place < length us = rw (← c.deref.ensures.value) c.in-Some.ensures.within in
    let listed : GoesOn g.S.Socket.left g.S.Socket.held no_news first c.list.new.upstream =
    on_listed _ _ no_news first c.give_up-has_failed.new.self c.list.new.upstream c.give_up-has_failed.ensures.goes c.list.ensures.stays in
    let goes : GoesOn g.S.Socket.left g.S.Socket.held no_news (get_or us place first) c.list.new.upstream =
    subst (λ u. GoesOn g.S.Socket.left g.S.Socket.held no_news u c.list.new.upstream) c.index_mut-upstream.ensures.value listed in
    one_goes_on _ _ no_news (on_still _ _) us place first c.list.new.upstream within goes

pub returns-in_err-list-clause-ready : goal.returns-in_err-list-clause-ready
returns-in_err-list-clause-ready g c = c.list.ensures.ready

pub returns-clause-goes : goal.returns-clause-goes
returns-clause-goes g c =
    let us = c.args.upstreams.now.items in
    let place = c.in-Some.place in
    let first = c.index_mut-upstream.result.now in
    let within : place < length us = rw (← c.deref.ensures.value) c.in-Some.ensures.within in
    let listed : GoesOn g.S.Socket.left g.S.Socket.held no_news first c.list.new.upstream =
    on_listed _ _ no_news first c.give_up-has_failed.new.self c.list.new.upstream c.give_up-has_failed.ensures.goes c.list.ensures.stays in
    let goes : GoesOn g.S.Socket.left g.S.Socket.held no_news (get_or us place first) c.list.new.upstream =
    subst (λ u. GoesOn g.S.Socket.left g.S.Socket.held no_news u c.list.new.upstream) c.index_mut-upstream.ensures.value listed in
    one_goes_on _ _ no_news (on_still _ _) us place first c.list.new.upstream within goes

pub returns-clause-ready : goal.returns-clause-ready
returns-clause-ready g c = c.list.ensures.ready

pub returns-clause-listed : goal.returns-clause-listed
returns-clause-listed g c = λ before.
    let us = c.args.upstreams.now.items in
    let place = c.in-Some.place in
    let first = c.index_mut-upstream.result.now in
    let given = c.give_up-has_failed in
    let within : place < length us = rw (← c.deref.ensures.value) c.in-Some.ensures.within in
    let listed : GoesOn g.S.Socket.left g.S.Socket.held no_news first c.list.new.upstream =
    on_listed _ _ no_news first given.new.self c.list.new.upstream given.ensures.goes c.list.ensures.stays in
    let was : IsMarked c.args.ready.now.items c.args.writes.now.items first =
    subst (IsMarked c.args.ready.now.items c.args.writes.now.items) (sym c.index_mut-upstream.ensures.value) ((listed_at 0 _ _ us place first within before).marked) in
    let same : get_or us place first ≡ first = sym c.index_mut-upstream.ensures.value in
    one_listed first.k 0 _ _ _ _ us place first c.list.new.upstream (λ v other. listed_still _ _ _ _ v c.list.ensures.ready c.list.ensures.writes) within (ap (λ (u : Upstream g.row.S.Denot). u.k) same) listed.number
    (c.in_ok-list.ensures.listed (marked_same _ _ first given.new.self given.ensures.goes.number given.ensures.stands.0 given.ensures.stands.1 was)) before
