use Rattle.std.proofs.Common.{[]}
use Rattle.std.specs.Prelude.{Some, false}
use Rattle.sockets.specs.Sides.{Goes, no_news}
use Rattle.sockets.proofs.Moving.{client_moves, goes_noted, goes_twice, side_flushed}
use Rattle.sockets.proofs.Performing.{ok_then}
use Rattle.sockets.proofs.Queueing.{grows_still, all_still}
use Rattle.sockets.proofs.connections.Sockets.hear_of_client.Goals as goal

pub returns-in_err-flush-clause-moves : goal.returns-in_err-flush-clause-moves
returns-in_err-flush-clause-moves g c =
    let noted : Goes g.S.Socket.left g.S.Socket.held no_news c.args.self.now.client c.note.new.self = goes_noted _ _ c.args.report.now _ _ c.note.ensures in
    client_moves _ _ _ _ c.args.self.now.upstreams.items
    (goes_twice _ _ (Some []) false 0 _ c.note.new.self c.flush.new.self noted (side_flushed _ _ c.note.new.self c.flush.new.self c.flush.ensures.stays c.flush.ensures.left c.flush.ensures.heard c.flush.ensures.puts))

pub returns-clause-moves : goal.returns-clause-moves
returns-clause-moves g c =
    let noted : Goes g.S.Socket.left g.S.Socket.held no_news c.args.self.now.client c.note.new.self = goes_noted _ _ c.args.report.now _ _ c.note.ensures in
    rw c.queue_client.ensures.client
    (rw c.queue_client.ensures.upstreams
    (client_moves _ _ _ _ c.args.self.now.upstreams.items
    (goes_twice _ _ (Some []) false 0 _ c.note.new.self c.flush.new.self noted (side_flushed _ _ c.note.new.self c.flush.new.self c.flush.ensures.stays c.flush.ensures.left c.flush.ensures.heard c.flush.ensures.puts))))

pub returns-clause-queued : goal.returns-clause-queued
returns-clause-queued g c =
    ok_then c.queue_client.result
    (λ make. λ before. record {
      client_is = make before.client_is.queued;
      all_are = rw c.queue_client.ensures.upstreams
          (rw c.queue_client.ensures.writes
          (all_still 0 _ _ _ _ c.args.self.now.upstreams.items c.queue_client.ensures.ready (grows_still _) before.all_are));
    })
    c.queue_client.ensures.listed
