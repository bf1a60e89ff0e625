use Rattle.std.proofs.Common.{◌≡◌, ap, sym, ◌∙◌}
use Rattle.model.specs.StreamStates.Standing.{Opened}
use Rattle.theory_errors.specs.Judging.{state_in}
use Rattle.theory_errors.specs.Rows.{kept_in}
use Rattle.stream_state.specs.Views.{state_in as state_told}
use Rattle.streams.specs.declared.entries.StreamEntry.{StreamEntry}
use Rattle.streams.specs.Records.{slot_in, at, IsAt}
use Rattle.streams.proofs.Asked.{read_at, standing_at, standing_in_gap}
use Rattle.streams.proofs.StreamTable.standing.Goals as goal

pub state_of-requires : goal.state_of-requires
state_of-requires c =
    let is : IsAt c.self.inside.entries.items c.args.id c.in-Ok.place = rw (← c.deref.ensures.value) c.in-Ok.ensures.found in
    let there = read_at c.self.inside.entries.items c.in-Ok.place c.index.result.now is.within c.index.ensures in
    rw (← there) (c.self.invariant.held c.in-Ok.place is.within)

pub returns-in-Ok : goal.returns-in-Ok
returns-in-Ok c =
    let is : IsAt c.self.inside.entries.items c.args.id c.in-Ok.place = rw (← c.deref.ensures.value) c.in-Ok.ensures.found in
    let there = read_at c.self.inside.entries.items c.in-Ok.place c.index.result.now is.within c.index.ensures in
    let told : state_told c.state_of.result ≡ state_in (kept_in (slot_in c.self.inside.records.slots (at c.self.inside.entries.items c.in-Ok.place).slot)) =
    c.state_of.ensures ∙ ap (λ (e : StreamEntry). state_in (kept_in (slot_in c.self.inside.records.slots e.slot))) (sym there) in
    rw (← c.self.view_is) (ap Opened told ∙ standing_at c.args.drained c.self.inside.entries.items c.self.inside.records.slots c.args.id c.in-Ok.place c.self.invariant.kept c.if-id-eq0.false is)

pub returns-in-Err : goal.returns-in-Err
returns-in-Err c =
    rw (← c.self.view_is) (c.unopened_standing.ensures ∙ rw (c.len-count.ensures, ← c.deref.ensures.len, c.deref.ensures.value) (standing_in_gap c.args.drained c.self.inside.entries.items c.self.inside.records.slots c.args.id c.in-Err.place c.self.invariant.kept c.if-id-eq0.false (rw (← c.deref.ensures.value) c.in-Err.ensures.absent)))
