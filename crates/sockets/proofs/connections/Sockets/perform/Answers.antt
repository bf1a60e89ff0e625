use Rattle.std.proofs.Common.{◌≡◌, ◌<◌, refl, sym, subst, inl, inr, length, get_or}
use Rattle.sockets.specs.Performed.{AreRising, IsNumbered, IsOpenNowhere, Opens}
use Rattle.sockets.proofs.Performing.{one_fewer}
use Rattle.sockets.proofs.Rising.{rising_remove}
use Rattle.sockets.specs.Queues.{AllListed}
use Rattle.sockets.proofs.Queueing.{one_removed}
use Rattle.sockets.proofs.connections.Sockets.perform.Goals as goal

pub returns-in-Some-clause-performs : goal.returns-in-Some-clause-performs
returns-in-Some-clause-performs g c =
    let us = c.args.self.now.upstreams.items in
    let k = c.in-Close.k in
    let within : c.in-Some.place < length us = rw (← c.deref-in-Close.ensures.value) c.in-Some.ensures.within in
    let found : (get_or us c.in-Some.place c.remove.result).k ≡ k = rw (← c.deref-in-Close.ensures.value) (c.in-Some.ensures.found c.remove.result) in
    let closed : Opens (IsNumbered k) c.remove.new.self.items us =
    subst (λ items. Opens (IsNumbered k) items us) (sym c.remove.ensures.items) (one_fewer us c.in-Some.place k c.remove.result within found) in
    rw c.in-Close.is (refl, λ up. inr closed)

pub returns-in-Some-clause-rising : goal.returns-in-Some-clause-rising
returns-in-Some-clause-rising g c = λ up.
    let us = c.args.self.now.upstreams.items in
    let within : c.in-Some.place < length us = rw (← c.deref-in-Close.ensures.value) c.in-Some.ensures.within in
    subst AreRising (sym c.remove.ensures.items) (rising_remove us c.in-Some.place within up)

pub returns-in_default-clause-performs : goal.returns-in_default-clause-performs
returns-in_default-clause-performs g c =
    let us = c.args.self.now.upstreams.items in
    let absent : AreRising us → IsOpenNowhere c.in-Close.k us = rw (← c.deref-in-Close.ensures.value) c.in_default.ensures.absent in
    rw c.in-Close.is (refl, λ up. inl (absent up, refl))

pub returns-in-Some-clause-queued : goal.returns-in-Some-clause-queued
returns-in-Some-clause-queued g c = λ before.
    let us = c.args.self.now.upstreams.items in
    let ready = c.args.self.now.ready.items in
    let writes = c.args.self.now.writes.items in
    let k = c.in-Close.k in
    let within : c.in-Some.place < length us = rw (← c.deref-in-Close.ensures.value) c.in-Some.ensures.within in
    let found : (get_or us c.in-Some.place c.remove.result).k ≡ k = rw (← c.deref-in-Close.ensures.value) (c.in-Some.ensures.found c.remove.result) in
    record {
      client_is = before.client_is;
      all_are = subst (AllListed 0 ready writes) (sym c.remove.ensures.items) (one_removed k 0 ready writes ready writes us c.in-Some.place c.remove.result (λ v other listed. listed) within found before.all_are);
    }
