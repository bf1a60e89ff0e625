use Rattle.std.proofs.Common.{◌≡◌, ◌<◌, refl, subst, length, get_or}
use Rattle.std.specs.Prelude.{None, Ok}
use Rattle.sockets.specs.Performed.{AreRising, IsOpenNowhere}
use Rattle.sockets.specs.Sides.{GoesOn, took_news}
use Rattle.sockets.proofs.Moving.{moves_still, moves_told, moves_untold, moves_twice}
use Rattle.sockets.proofs.Queueing.{told_queued, untold_queued}
use Rattle.sockets.proofs.connections.Sockets.tell_upstream.Goals as goal
use Rattle.sockets.proofs.connections.Sockets.tell_upstream.Goals.{in-Some+else-count-gt0, in_default}

pub loop-init : goal.loop-init
loop-init g c = record { moves = moves_still _ _ _ _; heard = refl; queued = λ all. all; addresses = refl; number = refl; portion = refl }

pub returns-then-count-gt0-clause-moves : goal.returns-then-count-gt0-clause-moves
returns-then-count-gt0-clause-moves g c =
    let us = c.loop.self.upstreams.items in
    let first = c.index_mut.result.now in
    let within : c.in-Some.place < length us = rw (← c.deref.ensures.value) c.in-Some.ensures.within in
    let found : (get_or us c.in-Some.place first).k ≡ c.in_ok-k.k = rw (← c.deref.ensures.value) (c.in-Some.ensures.found first) in
    let goes : GoesOn g.S.Socket.left g.S.Socket.held (took_news c.tell-count.result) (get_or us c.in-Some.place first) c.tell-count.new.self =
    subst (λ u. GoesOn g.S.Socket.left g.S.Socket.held (took_news c.tell-count.result) u c.tell-count.new.self) c.index_mut.ensures.value c.tell-count.ensures.goes in
    moves_twice _ _ _ _ _ _ _ us _ c.loop.invariant.moves (moves_told _ _ c.tell-count.result _ us c.in-Some.place _ c.tell-count.new.self first within found goes)

pub returns-then-count-gt0-clause-queued : goal.returns-then-count-gt0-clause-queued
returns-then-count-gt0-clause-queued g c = λ before.
    let us = c.loop.self.upstreams.items in
    let first = c.index_mut.result.now in
    let within : c.in-Some.place < length us = rw (← c.deref.ensures.value) c.in-Some.ensures.within in
    let found : (get_or us c.in-Some.place first).k ≡ c.in_ok-k.k = rw (← c.deref.ensures.value) (c.in-Some.ensures.found first) in
    told_queued _ _ _ c.in_ok-k.k _ _ us c.in-Some.place first c.tell-count.new.self c.in_ok-k.ensures.items c.index_mut.ensures.value within found c.tell-count.ensures.told (c.loop.invariant.queued before)

pub loop-preserved : goal.loop-preserved
loop-preserved g c = elim c.match-place_of.branch [
  | in-Some+else-count-gt0 w ↦
      let us = c.loop.self.upstreams.items in
      let first = w.index_mut.result.now in
      let within : w.in-Some.place < length us = rw (← c.deref.ensures.value) w.in-Some.ensures.within in
      let found : (get_or us w.in-Some.place first).k ≡ c.in_ok-k.k = rw (← c.deref.ensures.value) (w.in-Some.ensures.found first) in
      let goes : GoesOn g.S.Socket.left g.S.Socket.held (took_news w.tell-count.result) (get_or us w.in-Some.place first) w.tell-count.new.self =
      subst (λ u. GoesOn g.S.Socket.left g.S.Socket.held (took_news w.tell-count.result) u w.tell-count.new.self) w.index_mut.ensures.value w.tell-count.ensures.goes in
      rw w.self-is
      (record {
        moves = moves_twice _ _ (Ok None) _ _ _ _ us _ c.loop.invariant.moves (moves_untold _ _ w.tell-count.result _ us w.in-Some.place w.tell-count.new.self first w.if-count-gt0.false within goes);
        heard = c.loop.invariant.heard;
        addresses = c.loop.invariant.addresses;
        number = c.loop.invariant.number;
        portion = c.loop.invariant.portion;
        queued = λ before. told_queued _ _ _ c.in_ok-k.k _ _ us w.in-Some.place first w.tell-count.new.self c.in_ok-k.ensures.items w.index_mut.ensures.value within found w.tell-count.ensures.told (c.loop.invariant.queued before);
      })
  | in_default w ↦
      let us = c.loop.self.upstreams.items in
      let absent : AreRising us → IsOpenNowhere c.in_ok-k.k us = rw (← c.deref.ensures.value) w.in_default.ensures.absent in
      rw w.self-is (record { moves = c.loop.invariant.moves; heard = c.loop.invariant.heard; addresses = c.loop.invariant.addresses; number = c.loop.invariant.number; portion = c.loop.invariant.portion; queued = λ before. untold_queued _ _ _ c.in_ok-k.k _ _ us c.in_ok-k.ensures.items absent (c.loop.invariant.queued before) })
]
