use Rattle.std.proofs.Common.{ap, ◌∙◌}
use Rattle.streams.specs.Records.{IsAt}
use Rattle.streams.proofs.Asked.{read_at, live_here, held_here, over_here, if_none, none_here}
use Rattle.std.proofs.lemmas.Option.{IfSome_then}
use Rattle.streams.proofs.StreamTable.find.Goals as goal

pub returns-in_default-clause-none : goal.returns-in_default-clause-none
returns-in_default-clause-none c =
    rw (← c.self.view_is) (none_here c.self.inside.entries.items c.self.inside.records.slots c.args.id c.in_default.field-0 (rw (← c.deref.ensures.value) c.in_default.ensures.absent))

pub returns-in-Live-clause-live : goal.returns-in-Live-clause-live
returns-in-Live-clause-live c =
    let is : IsAt c.self.inside.entries.items c.args.id c.in-Ok.place = rw (← c.deref.ensures.value) c.in-Ok.ensures.found in
    let there = read_at c.self.inside.entries.items c.in-Ok.place c.index.result.now is.within c.index.ensures in
    IfSome_then c.live_at.result c.live_at.ensures.found (λ live found.
    rw (← c.self.view_is) (live_here c.self.inside.entries.items c.self.inside.records.slots c.args.id c.in-Ok.place c.self.invariant.kept is c.in-Live.key live.now (ap (λ e. e.slot) there ∙ c.in-Live.is) found))

pub returns-in-Live-clause-none : goal.returns-in-Live-clause-none
returns-in-Live-clause-none c =
    let is : IsAt c.self.inside.entries.items c.args.id c.in-Ok.place = rw (← c.deref.ensures.value) c.in-Ok.ensures.found in
    let there = read_at c.self.inside.entries.items c.in-Ok.place c.index.result.now is.within c.index.ensures in
    let held = held_here c.self.inside.entries.items c.self.inside.records.slots c.args.id c.in-Ok.place c.self.invariant.kept is c.in-Live.key (ap (λ e. e.slot) there ∙ c.in-Live.is) (c.self.invariant.held c.in-Ok.place is.within) in
    if_none c.live_at.result c.live_at.ensures.absent (λ absent. absurd (absent held.0 held.1))

pub returns-in-Over-clause-none : goal.returns-in-Over-clause-none
returns-in-Over-clause-none c =
    let is : IsAt c.self.inside.entries.items c.args.id c.in-Ok.place = rw (← c.deref.ensures.value) c.in-Ok.ensures.found in
    let there = read_at c.self.inside.entries.items c.in-Ok.place c.index.result.now is.within c.index.ensures in
    rw (← c.self.view_is) (over_here c.self.inside.entries.items c.self.inside.records.slots c.args.id c.in-Ok.place c.self.invariant.kept is c.in-Over.field-0 (ap (λ e. e.slot) there ∙ c.in-Over.is))
