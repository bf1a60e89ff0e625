use Rattle.std.proofs.Common.{◌≡◌, ◌-◌, ◌<◌, List, length, slice_get, Some, arith, ap, ◌∙◌, sym}
use Rattle.std.proofs.lemmas.Option.{slice_get_past}
use Rattle.model.specs.Messages.{Field}
use Rattle.model.specs.Tables.{Table}
use Rattle.hpack_table.proofs.Looked.{look_static, look_dynamic, few_entries, field_same}
use Rattle.hpack_table.proofs.table.Table.get.Goals as goal

pub returns-then-place-lt-STATIC_LENGTH-clause-entry : goal.returns-then-place-lt-STATIC_LENGTH-clause-entry
returns-then-place-lt-STATIC_LENGTH-clause-entry c = look_static c.args.self.now c.args.index c.static_entry.result (omega arith) c.if-place-lt-STATIC_LENGTH.true c.static_entry.ensures

pub returns-in-Some-clause-entry : goal.returns-in-Some-clause-entry
returns-in-Some-clause-entry c =
    let table : c.self.inside.fields ≡ c.args.self.now.fields = ap (λ (t : Table). t.fields) c.self.view_is in
    look_dynamic c.args.self.now c.args.index (omega arith) c.if-place-lt-STATIC_LENGTH.false
    ∙ ap (λ (f : List Field). slice_get f (c.args.index - 1 - 61)) (sym table) ∙ c.in-Some.ensures.1 ∙ ap (λ f. Some f) (field_same c.in-Some.field.now c.name.result.now c.value.result.now c.name.ensures c.value.ensures)

pub returns-in-Some-clause-small : goal.returns-in-Some-clause-small
returns-in-Some-clause-small c =
    let within = c.in-Some.ensures.0 in
    let few : length c.self.inside.fields < 134217728 = few_entries c.self.inside.fields c.self.inside.size c.self.inside.maximum c.self.invariant.0 c.self.invariant.1 c.self.invariant.2 in
    omega (arith, within, few)

pub returns-in-None-clause-entry : goal.returns-in-None-clause-entry
returns-in-None-clause-entry c =
    let table : c.self.inside.fields ≡ c.args.self.now.fields = ap (λ (t : Table). t.fields) c.self.view_is in
    look_dynamic c.args.self.now c.args.index (omega arith) c.if-place-lt-STATIC_LENGTH.false
    ∙ ap (λ (f : List Field). slice_get f (c.args.index - 1 - 61)) (sym table) ∙ slice_get_past c.self.inside.fields (c.args.index - 1 - 61) c.in-None.ensures
