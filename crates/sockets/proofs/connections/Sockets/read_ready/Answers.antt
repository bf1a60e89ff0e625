use Rattle.std.proofs.Common.{refl, sym, ◌∙◌, subst}
use Rattle.std.specs.Prelude.{None, Ok}
use Rattle.sockets.specs.Performed.{MovesOn}
use Rattle.sockets.specs.Portions.{FitsPortion}
use Rattle.sockets.proofs.Moving.{moves_still, moves_on, moves_twice, none_there}
use Rattle.sockets.proofs.Idling.{none_left, quiet, hears_from}
use Rattle.sockets.proofs.Queueing.{queued_in}
use Rattle.sockets.proofs.connections.Sockets.read_ready.Goals as goal

pub loop-init : goal.loop-init
loop-init g c = record { moves = moves_still _ _ _ _; queued = λ all. all; heard = λ all. refl; addresses = refl; number = refl; portion = refl }

pub returns-in_err-event-clause-moves : goal.returns-in_err-event-clause-moves
returns-in_err-event-clause-moves g c =
    moves_on _ _ c.from_residual.result _ _ _ _ _ _ _ c.from_residual.ensures.0 c.loop.invariant.moves c.in_err-event.ensures.moves

pub returns-then-is_some-clause-moves : goal.returns-then-is_some-clause-moves
returns-then-is_some-clause-moves g c =
    moves_twice _ _ (Ok c.in_ok-event.event) _ _ _ _ _ _ c.loop.invariant.moves c.in_ok-event.ensures.moves

pub loop-preserved : goal.loop-preserved
loop-preserved g c =
    let none = none_there c.in_ok-event.event (sym c.is_some.ensures ∙ c.if-is_some.false) in
    let c0 = c.loop.self.client in
    let us = c.loop.self.upstreams.items in
    let moved : MovesOn g.S.Socket.left g.S.Socket.held (Ok None) c0 us c.read.new.self.client c.read.new.self.upstreams.items =
    subst (λ event. MovesOn g.S.Socket.left g.S.Socket.held (Ok event) c0 us c.read.new.self.client c.read.new.self.upstreams.items) none c.in_ok-event.ensures.moves in
    record {
      moves = moves_twice _ _ (Ok None) _ _ _ _ us _ c.loop.invariant.moves moved;
      queued = λ before. c.in_ok-event.ensures.queued (queued_in c.loop.self.ready.items _ _ _ _ _ c.in-Some.ensures.stand (c.loop.invariant.queued before));
      heard = λ before. quiet c.args.idle.now c.in_ok-event.event _ _ _ _ none (c.in_ok-event.ensures.first (none_left c.in-Some.number c.take_next.new.ready.items c.loop.self.writes.items c.loop.self.is_client_queued c.loop.self.client c.loop.self.upstreams.items c.args.idle.now (queued_in c.loop.self.ready.items _ _ _ _ _ c.in-Some.ensures.stand (c.loop.invariant.queued before)) c.in-Some.ensures.first)) ∙ c.loop.invariant.heard before;
      addresses = c.in_ok-event.ensures.addresses ∙ c.loop.invariant.addresses;
      number = c.in_ok-event.ensures.number ∙ c.loop.invariant.number;
      portion = c.read.ensures.portion ∙ c.loop.invariant.portion;
    }

pub returns-then-is_some-clause-queued : goal.returns-then-is_some-clause-queued
returns-then-is_some-clause-queued g c = λ before. c.in_ok-event.ensures.queued (queued_in c.loop.self.ready.items _ _ _ _ _ c.in-Some.ensures.stand (c.loop.invariant.queued before))

pub returns-then-is_some-clause-first : goal.returns-then-is_some-clause-first
returns-then-is_some-clause-first g c = λ before.
    hears_from c.args.idle.now c.in_ok-event.event _ _ _ _ _ (c.loop.invariant.heard before) (c.in_ok-event.ensures.first (none_left c.in-Some.number c.take_next.new.ready.items c.loop.self.writes.items c.loop.self.is_client_queued c.loop.self.client c.loop.self.upstreams.items c.args.idle.now (queued_in c.loop.self.ready.items _ _ _ _ _ c.in-Some.ensures.stand (c.loop.invariant.queued before)) c.in-Some.ensures.first))

pub returns-in_default-clause-queued : goal.returns-in_default-clause-queued
returns-in_default-clause-queued g c = λ before. rw c.in_default.ensures.none (c.loop.invariant.queued before)

pub returns-then-is_some-clause-within : goal.returns-then-is_some-clause-within
returns-then-is_some-clause-within g c = subst (λ portion. FitsPortion portion c.in_ok-event.event) c.loop.invariant.portion c.in_ok-event.ensures.within
