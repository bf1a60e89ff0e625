use Rattle.std.proofs.Common.{sym}
use Rattle.stream_state.specs.Records.{IsAt}
use Rattle.stream_state.proofs.Searches.{read}
use Rattle.stream_state.proofs.Changes.{unchanged_in_gap, read_counted, read_kept, read_changed}
use Rattle.stream_state.proofs.Streams.change.Goals as goal

-- no record has the id
pub returns-in_default : goal.returns-in_default
returns-in_default c =
    rw (← c.self.view_is) (sym (unchanged_in_gap c.self.inside.records.items _ c.args.id c.in_default.field-0 (rw (← c.deref.ensures.value) c.in_default.ensures.absent)))

-- the record that was read stands at the place, and is counted
pub count_after-self-inside-requires-clause-counted : goal.count_after-self-inside-requires-clause-counted
count_after-self-inside-requires-clause-counted c =
    let at : IsAt c.self.inside.records.items c.args.id c.in-Ok.place = rw (← c.deref.ensures.value) c.in-Ok.ensures.found in
    let is_read = read c.self.inside.records.items c.in-Ok.place c.index.result.now at.within c.index.ensures in
    read_counted c.self.inside.records.items c.args.id c.in-Ok.place c.index.result.now at is_read c.self.inside.active c.self.invariant

pub invariant_of-self : goal.invariant_of-self
invariant_of-self c =
    let at : IsAt c.self.inside.records.items c.args.id c.in-Ok.place = rw (← c.deref.ensures.value) c.in-Ok.ensures.found in
    let is_read = read c.self.inside.records.items c.in-Ok.place c.index.result.now at.within c.index.ensures in
    read_kept c.self.inside.records.items c.args.id c.in-Ok.place c.index.result.now at is_read c.self.inside.active _ _ c.self.invariant c.count_after-self-inside.ensures

pub returns : goal.returns
returns c =
    let at : IsAt c.self.inside.records.items c.args.id c.in-Ok.place = rw (← c.deref.ensures.value) c.in-Ok.ensures.found in
    let is_read = read c.self.inside.records.items c.in-Ok.place c.index.result.now at.within c.index.ensures in
    rw (← c.self.view_is) (read_changed c.self.inside.records.items c.args.id c.in-Ok.place c.index.result.now at is_read _ _ c.self.invariant.rising c.after-state.ensures)
