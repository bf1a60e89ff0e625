use Rattle.stream_state.proofs.Searches.{standing_at, standing_in_gap}
use Rattle.std.proofs.Common.{◌∙◌}
use Rattle.stream_state.proofs.Streams.standing.Goals as goal

pub returns-in-Ok : goal.returns-in-Ok
returns-in-Ok c =
    rw (← c.self.view_is) (standing_at c.args.drained c.self.inside.records.items c.args.id c.in-Ok.place c.index.result.now c.self.invariant.rising c.if-id-eq0.false (rw (← c.deref.ensures.value) c.in-Ok.ensures.found) c.index.ensures)

pub returns-in-Err : goal.returns-in-Err
returns-in-Err c =
    rw (← c.self.view_is) (c.unopened_standing.ensures ∙ rw (c.len-count.ensures, ← c.deref.ensures.len, c.deref.ensures.value) (standing_in_gap c.args.drained c.self.inside.records.items c.args.id c.in-Err.place c.if-id-eq0.false (rw (← c.deref.ensures.value) c.in-Err.ensures.absent)))
