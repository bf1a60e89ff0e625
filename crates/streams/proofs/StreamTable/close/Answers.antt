use Rattle.std.proofs.Common.{ap, sym, subst, refl, IsSome, ◌∙◌}
use Rattle.streams.specs.Asked.{is_active}
use Rattle.streams.specs.Records.{IsAt}
use Rattle.streams.proofs.Asked.{read_at, over_here, none_here}
use Rattle.streams.proofs.Changes.{here_at, over_rows, over_held, not_both}
use Rattle.streams.proofs.StreamTable.close.Goals as goal

-- the stream is active
pub returns-in_default-clause-is : goal.returns-in_default-clause-is
returns-in_default-clause-is c =
    not_both (is_active c.args.self.now c.args.id) c.requires (rw (← c.self.view_is) (none_here c.self.inside.entries.items c.self.inside.records.slots c.args.id c.in_default.field-0 (rw (← c.deref.ensures.value) c.in_default.ensures.absent)))

pub returns-in_default-slot-clause-is : goal.returns-in_default-slot-clause-is
returns-in_default-slot-clause-is c =
    let is : IsAt c.self.inside.entries.items c.args.id c.in-Ok.place = rw (← c.deref.ensures.value) c.in-Ok.ensures.found in
    let there = read_at c.self.inside.entries.items c.in-Ok.place c.index.result.now is.within c.index.ensures in
    not_both (is_active c.args.self.now c.args.id) c.requires (rw (← c.self.view_is) (over_here c.self.inside.entries.items c.self.inside.records.slots c.args.id c.in-Ok.place c.self.invariant.kept is c.in_default-slot.field-0 (ap (λ e. e.slot) there ∙ c.in_default-slot.is)))

pub vacate-requires : goal.vacate-requires
vacate-requires c =
    let is : IsAt c.self.inside.entries.items c.args.id c.in-Ok.place = rw (← c.deref.ensures.value) c.in-Ok.ensures.found in
    let there = read_at c.self.inside.entries.items c.in-Ok.place c.index.result.now is.within c.index.ensures in
    let here = here_at c.self.inside.entries.items c.self.inside.records.slots c.args.id c.in-Ok.place c.in-Live.key c.self.invariant is (ap (λ e. e.slot) there ∙ c.in-Live.is) in
    subst IsSome (sym here.1.there) refl

pub invariant_of-self : goal.invariant_of-self
invariant_of-self c =
    let is : IsAt c.self.inside.entries.items c.args.id c.in-Ok.place = rw (← c.deref.ensures.value) c.in-Ok.ensures.found in
    let there = read_at c.self.inside.entries.items c.in-Ok.place c.index.result.now is.within c.index.ensures in
    let here = here_at c.self.inside.entries.items c.self.inside.records.slots c.args.id c.in-Ok.place c.in-Live.key c.self.invariant is (ap (λ e. e.slot) there ∙ c.in-Live.is) in
    rw c.vacate.ensures (over_held c.self.inside.entries.items c.self.inside.records.slots c.self.invariant c.args.id c.in-Ok.place c.in-Live.key here.0 here.1 c.args.by_us)

pub returns-clause-is : goal.returns-clause-is
returns-clause-is c =
    let is : IsAt c.self.inside.entries.items c.args.id c.in-Ok.place = rw (← c.deref.ensures.value) c.in-Ok.ensures.found in
    let there = read_at c.self.inside.entries.items c.in-Ok.place c.index.result.now is.within c.index.ensures in
    let here = here_at c.self.inside.entries.items c.self.inside.records.slots c.args.id c.in-Ok.place c.in-Live.key c.self.invariant is (ap (λ e. e.slot) there ∙ c.in-Live.is) in
    rw (← c.self.view_is, c.vacate.ensures) (over_rows c.self.inside.entries.items c.self.inside.records.slots c.self.invariant c.args.id c.in-Ok.place c.in-Live.key here.0 here.1 c.args.by_us)

pub returns-clause-kept : goal.returns-clause-kept
returns-clause-kept c =
    let is : IsAt c.self.inside.entries.items c.args.id c.in-Ok.place = rw (← c.deref.ensures.value) c.in-Ok.ensures.found in
    let there = read_at c.self.inside.entries.items c.in-Ok.place c.index.result.now is.within c.index.ensures in
    let here = here_at c.self.inside.entries.items c.self.inside.records.slots c.args.id c.in-Ok.place c.in-Live.key c.self.invariant is (ap (λ e. e.slot) there ∙ c.in-Live.is) in
    rw c.vacate.ensures (over_held c.self.inside.entries.items c.self.inside.records.slots c.self.invariant c.args.id c.in-Ok.place c.in-Live.key here.0 here.1 c.args.by_us).kept
