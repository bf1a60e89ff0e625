use Rattle.std.proofs.Common.{sym, ◌∙◌}
use Rattle.std.specs.List.{list_any}
use Rattle.effects.specs.Views.{event_of, output_of, outputs_of}
use Rattle.gateway.specs.Rooms.{fails, turns}
use Rattle.gateway.proofs.Rooms.{rooms_stay, turns_seen, either_false, on_ok}
use Rattle.gateway.proofs.gateway.Gateway.update_rooms.Goals as goal

pub returns-then-not-changes_connections : goal.returns-then-not-changes_connections
returns-then-not-changes_connections c = λ setup log run next before.
    let neither = either_false (fails (event_of c.args.event.now)) (list_any (λ output. turns (output_of output)) c.args.outputs.now) (sym c.changes_connections.ensures ∙ c.if-not-changes_connections.true) in
    rooms_stay setup c.args.self.now log run (event_of c.args.event.now) (outputs_of c.args.outputs.now) next c.args.rooms.now.items
    (sym next.stands.serves.passing.passing ∙ c.passes_whole.ensures c.if-passes_whole.true)
    (turns_seen c.args.outputs.now ∙ neither.1) neither.0 before

pub returns : goal.returns
returns c = on_ok c.list_rooms.result (λ listed setup log run next before. listed setup _ _ next.stands) c.list_rooms.ensures.log
