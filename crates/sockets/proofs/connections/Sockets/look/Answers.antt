use Rattle.std.specs.Prelude.{None, Ok}
use Rattle.sockets.specs.Performed.{MovesOn}
use Rattle.sockets.proofs.Moving.{moves_still, moves_twice, client_moves, side_flushed}
use Rattle.sockets.proofs.Queueing.{grows_still, stands_still, all_still, queued_in}
use Rattle.sockets.proofs.connections.Sockets.look.Goals as goal

pub returns-in_default-clause-moves : goal.returns-in_default-clause-moves
returns-in_default-clause-moves g c = moves_still _ _ _ _

pub returns-then-is_err-clause-moves : goal.returns-then-is_err-clause-moves
returns-then-is_err-clause-moves g c = moves_still _ _ _ _

pub returns-in_err-heed_all-clause-moves : goal.returns-in_err-heed_all-clause-moves
returns-in_err-heed_all-clause-moves g c = record { client_is = c.note_client.ensures; others = c.heed_all.ensures.goes }

pub returns-in_err-flush-clause-moves : goal.returns-in_err-flush-clause-moves
returns-in_err-flush-clause-moves g c =
    let us = c.heed_all.new.upstreams.items in
    let heeded : MovesOn g.S.Socket.left g.S.Socket.held (Ok None) c.args.self.now.client c.args.self.now.upstreams.items c.note_client.new.client us = record { client_is = c.note_client.ensures; others = c.heed_all.ensures.goes } in
    moves_twice _ _ (Ok None) _ _ _ _ us us heeded
    (client_moves _ _ _ _ us (side_flushed _ _ c.note_client.new.client c.flush.new.self c.flush.ensures.stays c.flush.ensures.left c.flush.ensures.heard c.flush.ensures.puts))

pub returns-in_err-queue_client-clause-moves : goal.returns-in_err-queue_client-clause-moves
returns-in_err-queue_client-clause-moves g c =
    let us = c.heed_all.new.upstreams.items in
    let heeded : MovesOn g.S.Socket.left g.S.Socket.held (Ok None) c.args.self.now.client c.args.self.now.upstreams.items c.note_client.new.client us = record { client_is = c.note_client.ensures; others = c.heed_all.ensures.goes } in
    rw c.queue_client.ensures.client
    (rw c.queue_client.ensures.upstreams
    (moves_twice _ _ (Ok None) _ _ _ _ us us heeded
    (client_moves _ _ _ _ us (side_flushed _ _ c.note_client.new.client c.flush.new.self c.flush.ensures.stays c.flush.ensures.left c.flush.ensures.heard c.flush.ensures.puts))))

pub returns-clause-moves : goal.returns-clause-moves
returns-clause-moves g c =
    let us = c.heed_all.new.upstreams.items in
    let heeded : MovesOn g.S.Socket.left g.S.Socket.held (Ok None) c.args.self.now.client c.args.self.now.upstreams.items c.note_client.new.client us = record { client_is = c.note_client.ensures; others = c.heed_all.ensures.goes } in
    rw c.put_client_last.ensures.client
    (rw c.put_client_last.ensures.upstreams
    (rw c.queue_client.ensures.client
    (rw c.queue_client.ensures.upstreams
    (moves_twice _ _ (Ok None) _ _ _ _ us us heeded
    (client_moves _ _ _ _ us (side_flushed _ _ c.note_client.new.client c.flush.new.self c.flush.ensures.stays c.flush.ensures.left c.flush.ensures.heard c.flush.ensures.puts))))))

pub returns-clause-queued : goal.returns-clause-queued
returns-clause-queued g c = λ before.
    let put = c.put_client_last.ensures in
    let queued = c.queue_client.ensures in
    let listed = c.in_ok-queue_client.ensures.listed (λ is. stands_still 0 _ _ c.heed_all.ensures.ready (before.client_is.queued is)) in
    rw put.writes
    (rw put.queued
    (rw put.client
    (rw put.upstreams
    (queued_in _ _ _ _ _ _ put.stand
    (record {
      client_is = listed;
      all_are = rw queued.upstreams
          (rw queued.writes
          (all_still 0 _ _ _ _ c.heed_all.new.upstreams.items queued.ready (grows_still _) (c.in_ok-heed_all.ensures.listed before.all_are)));
    })))))
