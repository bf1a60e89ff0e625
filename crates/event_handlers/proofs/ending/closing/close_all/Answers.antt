use Rattle.std.proofs.Common.{List, ◌∙◌, ap}
use Rattle.model.specs.Logs.{Output}
use Rattle.model.specs.Logs.Output.{Does}
use Rattle.model.specs.Logs.Act.{Close, CloseClient}
use Rattle.model.specs.Tapes.{put}
use Rattle.theory_requests.specs.Lines.{Line}
use Rattle.theory.specs.Ending.{closed_all}
use Rattle.refinement.specs.Performing.{put_all}
use Rattle.event_handlers.proofs.ending.Closes.{closes_more, closes_all, on_ok}
use Rattle.event_handlers.proofs.ending.closing.close_all.Goals as goal

-- one more is closed
pub loop-connection-preserved : goal.loop-connection-preserved
loop-connection-preserved c =
    c.in_ok-close_up.ensures
    ∙ ap (λ n. put c.loop-connection.out (Does (Close n))) c.number.ensures
    ∙ ap (λ (o : List Output). put o (Does (Close c.connection-item.result.live.k))) c.loop-connection.invariant
    ∙ closes_more c.args.out.now c.connections-connections.result.now c.loop-connection.connection-index c.connection-item.result c.loop-connection-test.true c.connection-item.is

-- all are
pub returns : goal.returns
returns c =
    let all = closes_all c.connections-connections.result.now c.args.upstreams.now.live c.loop-connection.connection-index c.connections-connections.ensures.all c.loop-connection-test.false in
    on_ok c.close_client.result
    (λ is. is ∙ ap (λ (o : List Output). put o (Does CloseClient)) (c.loop-connection.invariant ∙ ap (λ (ls : List Line). put_all c.args.out.now (closed_all ls)) all))
    c.close_client.ensures
