use Rattle.std.proofs.Common.{◌≡◌, ◌<◌, ◌∙◌, inl, inr, length, get_or, refl, subst, sym, ap}
use Rattle.sockets.specs.declared.upstream.Upstream.{Upstream}
use Rattle.sockets.specs.Sides.{SendsFront}
use Rattle.sockets.specs.Performed.{AreRising, IsOpenNowhere, Sends}
use Rattle.sockets.specs.Queues.{IsMarked}
use Rattle.sockets.proofs.Performing.{one_changed, listed, front_listed, on_ok, on_err, ok_then}
use Rattle.sockets.proofs.Queueing.{listed_at, listed_still, one_listed, marked_same, client_still}
use Rattle.sockets.proofs.Rising.{rising_set}
use Rattle.sockets.proofs.connections.Sockets.put.Goals as goal

pub returns-in_default-clause-sends : goal.returns-in_default-clause-sends
returns-in_default-clause-sends g c =
    let us = c.args.self.now.upstreams.items in
    let absent : AreRising us → IsOpenNowhere c.args.k us = rw (← c.deref.ensures.value) c.in_default.ensures.absent in
    λ up. inl (absent up, refl)

pub returns-clause-sends : goal.returns-clause-sends
returns-clause-sends g c =
    let us = c.args.self.now.upstreams.items in
    let octets = c.args.octets.now in
    let first = c.index_mut-upstream.result.now in
    let within : c.in-Some.place < length us = rw (← c.deref.ensures.value) c.in-Some.ensures.within in
    let found : (get_or us c.in-Some.place first).k ≡ c.args.k = rw (← c.deref.ensures.value) (c.in-Some.ensures.found first) in
    let sends : Sends g.S.Socket.left g.S.Socket.held octets first c.list.new.upstream = listed _ _ first c.put.new.self c.list.new.upstream octets c.in_ok-put.ensures.sends c.list.ensures.stays in
    on_ok c.list.result (λ up. inr (one_changed (λ from to. Sends g.S.Socket.left g.S.Socket.held octets from to) us c.in-Some.place c.args.k first c.list.new.upstream within found (subst (λ u. Sends g.S.Socket.left g.S.Socket.held octets u c.list.new.upstream) c.index_mut-upstream.ensures.value sends)))

pub returns-clause-rising : goal.returns-clause-rising
returns-clause-rising g c =
    let us = c.args.self.now.upstreams.items in
    let first = c.index_mut-upstream.result.now in
    rising_set us c.in-Some.place first c.list.new.upstream
    (ap (λ (u : Upstream g.row.S.Denot). u.k) c.list.ensures.stays ∙ c.in_ok-put.ensures.front.number ∙ ap (λ (u : Upstream g.row.S.Denot). u.k) c.index_mut-upstream.ensures.value)

pub returns-in_err-put-clause-rising : goal.returns-in_err-put-clause-rising
returns-in_err-put-clause-rising g c =
    let us = c.args.self.now.upstreams.items in
    let first = c.index_mut-upstream.result.now in
    rising_set us c.in-Some.place first c.put.new.self (c.in_err-put.ensures.front.number ∙ ap (λ (u : Upstream g.row.S.Denot). u.k) c.index_mut-upstream.ensures.value)

pub returns-in_err-put-clause-err : goal.returns-in_err-put-clause-err
returns-in_err-put-clause-err g c =
    let us = c.args.self.now.upstreams.items in
    let octets = c.args.octets.now in
    let first = c.index_mut-upstream.result.now in
    let within : c.in-Some.place < length us = rw (← c.deref.ensures.value) c.in-Some.ensures.within in
    let found : (get_or us c.in-Some.place first).k ≡ c.args.k = rw (← c.deref.ensures.value) (c.in-Some.ensures.found first) in
    on_err c.from_residual.result (one_changed (λ from to. SendsFront g.S.Socket.left g.S.Socket.held octets from to) us c.in-Some.place c.args.k first c.put.new.self within found (subst (λ u. SendsFront g.S.Socket.left g.S.Socket.held octets u c.put.new.self) c.index_mut-upstream.ensures.value c.put.ensures.front))

pub returns-clause-err : goal.returns-clause-err
returns-clause-err g c =
    let us = c.args.self.now.upstreams.items in
    let octets = c.args.octets.now in
    let first = c.index_mut-upstream.result.now in
    let within : c.in-Some.place < length us = rw (← c.deref.ensures.value) c.in-Some.ensures.within in
    let found : (get_or us c.in-Some.place first).k ≡ c.args.k = rw (← c.deref.ensures.value) (c.in-Some.ensures.found first) in
    let front : SendsFront g.S.Socket.left g.S.Socket.held octets first c.list.new.upstream = front_listed _ _ first c.put.new.self c.list.new.upstream octets c.put.ensures.front c.list.ensures.stays in
    on_err c.list.result (one_changed (λ from to. SendsFront g.S.Socket.left g.S.Socket.held octets from to) us c.in-Some.place c.args.k first c.list.new.upstream within found (subst (λ u. SendsFront g.S.Socket.left g.S.Socket.held octets u c.list.new.upstream) c.index_mut-upstream.ensures.value front))

pub returns-clause-queued : goal.returns-clause-queued
returns-clause-queued g c =
    let us = c.args.self.now.upstreams.items in
    let place = c.in-Some.place in
    let ready = c.args.self.now.ready.items in
    let writes = c.args.self.now.writes.items in
    let first = c.index_mut-upstream.result.now in
    let within : place < length us = rw (← c.deref.ensures.value) c.in-Some.ensures.within in
    let same : get_or us place first ≡ first = sym c.index_mut-upstream.ensures.value in
    let number : c.list.new.upstream.k ≡ first.k = ap (λ (u : Upstream g.row.S.Denot). u.k) c.list.ensures.stays ∙ c.put.ensures.front.number in
    ok_then c.list.result
    (λ listed. λ before.
    let was : IsMarked ready writes first = subst (IsMarked ready writes) (sym c.index_mut-upstream.ensures.value) ((listed_at 0 ready writes us place first within before.all_are).marked) in
    record {
      client_is = client_still ready _ _ _ c.list.ensures.ready before.client_is;
      all_are = one_listed first.k 0 ready writes _ _ us place first c.list.new.upstream (λ v other. listed_still ready _ writes _ v c.list.ensures.ready c.list.ensures.writes) within
          (ap (λ (u : Upstream g.row.S.Denot). u.k) same) number (listed (marked_same ready writes first c.put.new.self c.put.ensures.front.number c.put.ensures.stands.0 c.put.ensures.stands.1 was)) before.all_are;
    })
    c.list.ensures.listed
