use Rattle.std.proofs.Common.{◌≡◌, ◌<◌, get_or, length, subst, sym, ap}
use Rattle.sockets.specs.Queues.{IsListed}
use Rattle.sockets.specs.Sides.{GoesOn, no_news}
use Rattle.sockets.specs.declared.upstream.Upstream.{Upstream}
use Rattle.sockets.proofs.Moving.{all_still, on_still, one_goes_on}
use Rattle.sockets.proofs.Queueing.{listed_at, listed_alike, one_listed}
use Rattle.sockets.proofs.queues.note_idle.Goals as goal

pub returns-in_default-clause-goes : goal.returns-in_default-clause-goes
returns-in_default-clause-goes g c = all_still _ _ c.args.upstreams.now.items

pub returns-in-Some-clause-goes : goal.returns-in-Some-clause-goes
returns-in-Some-clause-goes g c =
    let us = c.args.upstreams.now.items in
    let place = c.in-Some.place in
    let first = c.index_mut-upstream.result.now in
    let within : place < length us = rw (← c.deref.ensures.value) c.in-Some.ensures.within in
    let goes : GoesOn g.S.Socket.left g.S.Socket.held no_news (get_or us place first) c.note_idle.new.self =
    subst (λ u. GoesOn g.S.Socket.left g.S.Socket.held no_news u c.note_idle.new.self) c.index_mut-upstream.ensures.value c.note_idle.ensures.goes in
    one_goes_on _ _ no_news (on_still _ _) us place first c.note_idle.new.self within goes

pub returns-in-Some-clause-listed : goal.returns-in-Some-clause-listed
returns-in-Some-clause-listed g c = λ ready writes before.
    let us = c.args.upstreams.now.items in
    let place = c.in-Some.place in
    let first = c.index_mut-upstream.result.now in
    let within : place < length us = rw (← c.deref.ensures.value) c.in-Some.ensures.within in
    let same : get_or us place first ≡ first = sym c.index_mut-upstream.ensures.value in
    let was : IsListed ready writes first = subst (IsListed ready writes) same (listed_at 0 ready writes us place first within before) in
    let stays = c.note_idle.ensures.stays in
    let listed : IsListed ready writes c.note_idle.new.self =
    listed_alike ready writes first c.note_idle.new.self (ap (λ (u : Upstream g.row.S.Denot). u.k) stays) (ap (λ (u : Upstream g.row.S.Denot). u.is_queued) stays)
    (ap (λ (u : Upstream g.row.S.Denot). u.is_listed) stays) c.note_idle.ensures.marks.0 c.note_idle.ensures.marks.1 was in
    one_listed first.k 0 ready writes ready writes us place first c.note_idle.new.self (λ v other it. it) within (ap (λ (u : Upstream g.row.S.Denot). u.k) same)
    (ap (λ (u : Upstream g.row.S.Denot). u.k) stays) listed before
