use Rattle.std.proofs.Common.{◌≡◌, sym, ap, ◌∙◌, subst, List, ◌++◌, ◌∷◌, [], ◌<◌, length, true}
use Rattle.model.specs.Limits.{most_streams}
use Rattle.theory_errors.specs.Tidy.{AreKept, is_above_all}
use Rattle.streams.specs.declared.entries.StreamEntry.{StreamEntry}
use Rattle.streams.specs.declared.entries.Slot.TheVariants.{Live}
use Rattle.streams.specs.Records.{rows_in}
use Rattle.streams.proofs.Openings.{opened_rows, opened_held}
use Rattle.streams.proofs.StreamTable.open.Goals as goal

pub invariant_of-self-2 : goal.invariant_of-self-2
invariant_of-self-2 c =
    let es = c.self.inside.entries.items in
    let rs = c.self.inside.records.slots in
    let pushed : c.push.new.self.items ≡ es ++ record { id = c.args.id; slot = Live c.in_ok-key.key } ∷ [] =
    c.in-Ok.ensures.items ∙ ap (λ (xs : List StreamEntry). xs ++ record { id = c.args.id; slot = Live c.in_ok-key.key } ∷ []) c.reserve.ensures.items in
    let above : is_above_all c.args.id (rows_in es rs) ≡ true = rw c.self.view_is c.requires.may.above in
    let few : length (rows_in es rs) < most_streams = rw c.self.view_is c.requires.may.few in
    rw pushed (opened_held es rs c.store.new.records.slots c.args.id c.in_ok-key.key c.args.live c.self.invariant c.in_ok-key.ensures.ok c.requires.may.of_stream above few c.requires.tidy)

pub returns-clause-ok : goal.returns-clause-ok
returns-clause-ok c =
    let es = c.self.inside.entries.items in
    let rs = c.self.inside.records.slots in
    let pushed : c.push.new.self.items ≡ es ++ record { id = c.args.id; slot = Live c.in_ok-key.key } ∷ [] =
    c.in-Ok.ensures.items ∙ ap (λ (xs : List StreamEntry). xs ++ record { id = c.args.id; slot = Live c.in_ok-key.key } ∷ []) c.reserve.ensures.items in
    let above : is_above_all c.args.id (rows_in es rs) ≡ true = rw c.self.view_is c.requires.may.above in
    let few : length (rows_in es rs) < most_streams = rw c.self.view_is c.requires.may.few in
    rw (← c.self.view_is) (ap (λ (xs : List StreamEntry). rows_in xs c.store.new.records.slots) pushed
    ∙ opened_rows es rs c.store.new.records.slots c.args.id c.in_ok-key.key c.args.live c.self.invariant c.in_ok-key.ensures.ok c.requires.may.of_stream above few c.requires.tidy)

pub returns-clause-kept : goal.returns-clause-kept
returns-clause-kept c =
    let es = c.self.inside.entries.items in
    let rs = c.self.inside.records.slots in
    let pushed : c.push.new.self.items ≡ es ++ record { id = c.args.id; slot = Live c.in_ok-key.key } ∷ [] =
    c.in-Ok.ensures.items ∙ ap (λ (xs : List StreamEntry). xs ++ record { id = c.args.id; slot = Live c.in_ok-key.key } ∷ []) c.reserve.ensures.items in
    let above : is_above_all c.args.id (rows_in es rs) ≡ true = rw c.self.view_is c.requires.may.above in
    let few : length (rows_in es rs) < most_streams = rw c.self.view_is c.requires.may.few in
    let held = opened_held es rs c.store.new.records.slots c.args.id c.in_ok-key.key c.args.live c.self.invariant c.in_ok-key.ensures.ok c.requires.may.of_stream above few c.requires.tidy in
    subst (λ (xs : List StreamEntry). AreKept (rows_in xs c.store.new.records.slots)) (sym pushed) held.kept
