use Rattle.std.proofs.Common.{◌≡◌, ◌==◌, ap, sym, subst, ◌∙◌, false}
use Rattle.std.specs.Prelude.{Option, IfSome}
use Rattle.theory_errors.specs.Summary.{Stream as Kept}
use Rattle.theory_errors.specs.Judging.{is_over_in}
use Rattle.streams.specs.declared.records.StreamRecord.{StreamRecord}
use Rattle.streams.specs.Asked.{is_active}
use Rattle.streams.specs.Steps.{taken}
use Rattle.streams.specs.Sending.{AreTakable}
use Rattle.streams.specs.Views.{outline_of}
use Rattle.streams.specs.Records.{IsAt}
use Rattle.streams.proofs.Asked.{read_at, over_here, none_here}
use Rattle.streams.proofs.Courses.{course_steady}
use Rattle.streams.proofs.Changes.{here_at, kept_here, changed_held, changed_rows, not_both}
use Rattle.streams.proofs.StreamTable.put.Goals as goal

-- the stream is active
pub returns-in_default-clause-is : goal.returns-in_default-clause-is
returns-in_default-clause-is c =
    not_both (is_active c.args.self.now c.args.id) c.requires.live (rw (← c.self.view_is) (none_here c.self.inside.entries.items c.self.inside.records.slots c.args.id c.in_default.field-0 (rw (← c.deref.ensures.value) c.in_default.ensures.absent)))

pub returns-in_default-slot-clause-is : goal.returns-in_default-slot-clause-is
returns-in_default-slot-clause-is c =
    let is : IsAt c.self.inside.entries.items c.args.id c.in-Ok.place = rw (← c.deref.ensures.value) c.in-Ok.ensures.found in
    let there = read_at c.self.inside.entries.items c.in-Ok.place c.index.result.now is.within c.index.ensures in
    not_both (is_active c.args.self.now c.args.id) c.requires.live (rw (← c.self.view_is) (over_here c.self.inside.entries.items c.self.inside.records.slots c.args.id c.in-Ok.place c.self.invariant.kept is c.in_default-slot.field-0 (ap (λ e. e.slot) there ∙ c.in_default-slot.is)))

pub take_at-requires : goal.take_at-requires
take_at-requires c = λ some.
    let es = c.self.inside.entries.items in
    let is : IsAt es c.args.id c.in-Ok.place = rw (← c.deref.ensures.value) c.in-Ok.ensures.found in
    let there = read_at es c.in-Ok.place c.index.result.now is.within c.index.ensures in
    let here = here_at es c.self.inside.records.slots c.args.id c.in-Ok.place c.in-Live.key c.self.invariant is (ap (λ e. e.slot) there ∙ c.in-Live.is) in
    let live = kept_here es c.self.inside.records.slots c.args.id c.in-Ok.place c.in-Live.key here.0 c.self.invariant here.1 in
    let fits : (c.args.octets == 0) ≡ false → AreTakable c.args.octets here.0.live = subst (λ (k : Kept). (c.args.octets == 0) ≡ false → AreTakable c.args.octets k) live.found (rw c.self.view_is c.requires.fits) in
    subst (λ (o : Option StreamRecord). IfSome o (λ (r : StreamRecord). AreTakable c.args.octets r.live)) (sym here.1.there) (fits some)

pub invariant_of-self : goal.invariant_of-self
invariant_of-self c =
    let es = c.self.inside.entries.items in
    let is : IsAt es c.args.id c.in-Ok.place = rw (← c.deref.ensures.value) c.in-Ok.ensures.found in
    let there = read_at es c.in-Ok.place c.index.result.now is.within c.index.ensures in
    let here = here_at es c.self.inside.records.slots c.args.id c.in-Ok.place c.in-Live.key c.self.invariant is (ap (λ e. e.slot) there ∙ c.in-Live.is) in
    let live = kept_here es c.self.inside.records.slots c.args.id c.in-Ok.place c.in-Live.key here.0 c.self.invariant here.1 in
    let goes_on : is_over_in (taken c.args.octets (outline_of c.args.course) c.args.ended here.0.live) ≡ false = subst (λ (k : Kept). is_over_in (taken c.args.octets (outline_of c.args.course) c.args.ended k) ≡ false) live.found (rw c.self.view_is c.requires.goes_on) in
    changed_held es c.self.inside.records c.take_at.new.records c.self.invariant c.args.id c.in-Ok.place c.in-Live.key here.0 here.1 (taken c.args.octets (outline_of c.args.course) c.args.ended) (goes_on, course_steady c.args.course) c.take_at.ensures

pub returns-in-Live-clause-is : goal.returns-in-Live-clause-is
returns-in-Live-clause-is c =
    let es = c.self.inside.entries.items in
    let is : IsAt es c.args.id c.in-Ok.place = rw (← c.deref.ensures.value) c.in-Ok.ensures.found in
    let there = read_at es c.in-Ok.place c.index.result.now is.within c.index.ensures in
    let here = here_at es c.self.inside.records.slots c.args.id c.in-Ok.place c.in-Live.key c.self.invariant is (ap (λ e. e.slot) there ∙ c.in-Live.is) in
    let live = kept_here es c.self.inside.records.slots c.args.id c.in-Ok.place c.in-Live.key here.0 c.self.invariant here.1 in
    let goes_on : is_over_in (taken c.args.octets (outline_of c.args.course) c.args.ended here.0.live) ≡ false = subst (λ (k : Kept). is_over_in (taken c.args.octets (outline_of c.args.course) c.args.ended k) ≡ false) live.found (rw c.self.view_is c.requires.goes_on) in
    rw (← c.self.view_is) (changed_rows es c.self.inside.records c.take_at.new.records c.self.invariant c.args.id c.in-Ok.place c.in-Live.key here.0 here.1 (taken c.args.octets (outline_of c.args.course) c.args.ended) (goes_on, course_steady c.args.course) c.take_at.ensures)

pub returns-in-Live-clause-kept : goal.returns-in-Live-clause-kept
returns-in-Live-clause-kept c =
    let es = c.self.inside.entries.items in
    let is : IsAt es c.args.id c.in-Ok.place = rw (← c.deref.ensures.value) c.in-Ok.ensures.found in
    let there = read_at es c.in-Ok.place c.index.result.now is.within c.index.ensures in
    let here = here_at es c.self.inside.records.slots c.args.id c.in-Ok.place c.in-Live.key c.self.invariant is (ap (λ e. e.slot) there ∙ c.in-Live.is) in
    let live = kept_here es c.self.inside.records.slots c.args.id c.in-Ok.place c.in-Live.key here.0 c.self.invariant here.1 in
    let goes_on : is_over_in (taken c.args.octets (outline_of c.args.course) c.args.ended here.0.live) ≡ false = subst (λ (k : Kept). is_over_in (taken c.args.octets (outline_of c.args.course) c.args.ended k) ≡ false) live.found (rw c.self.view_is c.requires.goes_on) in
    (changed_held es c.self.inside.records c.take_at.new.records c.self.invariant c.args.id c.in-Ok.place c.in-Live.key here.0 here.1 (taken c.args.octets (outline_of c.args.course) c.args.ended) (goes_on, course_steady c.args.course) c.take_at.ensures).kept
