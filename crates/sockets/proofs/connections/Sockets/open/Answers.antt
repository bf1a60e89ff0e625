use Rattle.std.proofs.Common.{rules, ◌≡◌, ◌∙◌, ap, sym, subst}
use Rattle.std.specs.Prelude.{nat_lt, slice_get}
use Rattle.sockets.specs.Sides.{IsNew}
use Rattle.sockets.specs.Tokens.{number_of_client}
use Rattle.std.specs.List.{insert}
use Rattle.std.proofs.lemmas.List.Sorted.{IsPartitionedBy-ltb, IsPartitionPoint-from_clause}
use Rattle.sockets.specs.declared.upstream.Upstream.{Upstream}
use Rattle.sockets.specs.Performed.{AreRising, IsOpenNowhere, Opens}
use Rattle.sockets.proofs.Performing.{one_more, new_listed}
use Rattle.sockets.proofs.Rising.{rising_insert}
use Rattle.sockets.specs.Queues.{IsListed, AllListed}
use Rattle.sockets.proofs.Queueing.{all_still, unmarked, numbers_rise, opened_listed, client_still}
use Rattle.sockets.proofs.connections.Sockets.open.Goals as goal

pub returns-clause-opens : goal.returns-clause-opens
returns-clause-opens g c =
    let us = c.args.self.now.upstreams.items in
    let address = slice_get c.args.self.now.addresses.now c.args.route in
    let begun : IsNew (number_of_client c.args.self.now.reporting) c.args.k address c.in_ok-upstream.upstream = subst (λ a. IsNew (number_of_client c.args.self.now.reporting) c.args.k a c.in_ok-upstream.upstream) c.address_of.ensures c.in_ok-upstream.ensures.new in
    let new : IsNew (number_of_client c.args.self.now.reporting) c.args.k address c.list.new.upstream = new_listed (number_of_client c.args.self.now.reporting) c.args.k address c.in_ok-upstream.upstream c.list.new.upstream begun c.list.ensures.stays in
    subst (λ items. Opens (IsNew (number_of_client c.args.self.now.reporting) c.args.k address) us items) (sym c.in_ok-insert.ensures.items) (one_more (IsNew (number_of_client c.args.self.now.reporting) c.args.k address) us c.partition_point-place.result c.list.new.upstream new)

pub returns-clause-rising : goal.returns-clause-rising
returns-clause-rising g c = λ up.
    let seen = c.deref.result.now in
    let upstream = c.list.new.upstream in
    let place = c.partition_point-place.result in
    let facts = c.partition_point-place.ensures in
    let number : upstream.k ≡ c.args.k = ap (λ (u : Upstream g.row.S.Denot). u.k) c.list.ensures.stays ∙ c.in_ok-upstream.ensures.new.number in
    let rising : AreRising seen = subst AreRising (sym c.deref.ensures.value) up in
    let point = IsPartitionPoint-from_clause (λ (u : Upstream g.row.S.Denot). nat_lt u.k c.args.k) _ _ facts.partitioned (IsPartitionedBy-ltb (λ (u : Upstream g.row.S.Denot). u.k) seen c.args.k rising) (λ a r q k. search rules) in
    subst AreRising (sym c.in_ok-insert.ensures.items)
    (subst (λ us. AreRising (insert us place upstream)) c.deref.ensures.value (rising_insert seen place upstream c.args.k number facts.bound rising point))

pub returns-clause-queued : goal.returns-clause-queued
returns-clause-queued g c = λ before.
    let may = c.may_open.ensures c.if-not-may_open.false in
    let up = may.0 in
    let fresh = may.1 (numbers_rise 0 _ _ c.args.self.now.upstreams.items before.all_are) in
    let us = c.args.self.now.upstreams.items in
    let seen = c.deref.result.now in
    let upstream = c.list.new.upstream in
    let place = c.partition_point-place.result in
    let facts = c.partition_point-place.ensures in
    let ready = c.list.new.ready.items in
    let writes = c.list.new.writes.items in
    let number : upstream.k ≡ c.args.k = ap (λ (u : Upstream g.row.S.Denot). u.k) c.list.ensures.stays ∙ c.in_ok-upstream.ensures.new.number in
    let all : AllListed 0 ready writes seen = subst (AllListed 0 ready writes) (sym c.deref.ensures.value) (all_still 0 _ ready _ writes us c.list.ensures.ready c.list.ensures.writes before.all_are) in
    let point = IsPartitionPoint-from_clause (λ (u : Upstream g.row.S.Denot). nat_lt u.k c.args.k) _ _ facts.partitioned (IsPartitionedBy-ltb (λ (u : Upstream g.row.S.Denot). u.k) seen c.args.k (numbers_rise 0 ready writes seen all)) (λ a r q k. search rules) in
    let nowhere : IsOpenNowhere c.args.k seen = subst (IsOpenNowhere c.args.k) (sym c.deref.ensures.value) fresh in
    let listed : IsListed ready writes upstream = c.in_ok-list.ensures.listed (unmarked _ _ c.in_ok-upstream.upstream c.in_ok-upstream.ensures.unmarked.0 c.in_ok-upstream.ensures.unmarked.1) in
    record {
      client_is = client_still _ ready _ _ c.list.ensures.ready before.client_is;
      all_are = subst (AllListed 0 ready writes) (sym c.in_ok-insert.ensures.items)
          (subst (λ vs. AllListed 0 ready writes (insert vs place upstream)) c.deref.ensures.value (opened_listed ready writes seen place upstream c.args.k number up facts.bound nowhere point listed all));
    }

pub returns-clause-fresh : goal.returns-clause-fresh
returns-clause-fresh g c = (c.may_open.ensures c.if-not-may_open.false).1
