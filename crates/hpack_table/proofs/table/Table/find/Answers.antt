use Rattle.std.proofs.Common.{ap, sym, ◌∙◌}
use Rattle.model.specs.Tables.{Table}
use Rattle.hpack_table.specs.Searching.{table_of}
use Rattle.hpack_table.proofs.Looked.{few_entries}
use Rattle.hpack_table.proofs.Searched.{finds_alike, finds_in_all, seeks_behind}
use Rattle.hpack_table.proofs.table.Table.find.Goals as goal

pub returns-then-is_both : goal.returns-then-is_both
returns-then-is_both c = finds_in_all c.args.self.now c.args.name.now c.args.value.now c.find_static-found.result c.find_static-found.ensures (sym c.is_both.ensures ∙ c.if-is_both.true)

pub find_by_hash-requires-clause-seeks : goal.find_by_hash-requires-clause-seeks
find_by_hash-requires-clause-seeks c =
    seeks_behind (table_of c.self.inside.fields) c.args.name.now c.args.value.now c.find_static-found.result c.find_static-found.ensures (sym c.is_both.ensures ∙ c.if-is_both.false)

pub find_by_hash-requires-clause-few : goal.find_by_hash-requires-clause-few
find_by_hash-requires-clause-few c = few_entries c.self.inside.fields c.self.inside.size c.self.inside.maximum c.self.invariant.0 c.self.invariant.1 c.self.invariant.2

pub find_added-requires-clause-seeks : goal.find_added-requires-clause-seeks
find_added-requires-clause-seeks c =
    seeks_behind (table_of c.self.inside.fields) c.args.name.now c.args.value.now c.find_static-found.result c.find_static-found.ensures (sym c.is_both.ensures ∙ c.if-is_both.false)

pub find_added-requires-clause-few : goal.find_added-requires-clause-few
find_added-requires-clause-few c = few_entries c.self.inside.fields c.self.inside.size c.self.inside.maximum c.self.invariant.0 c.self.invariant.1 c.self.invariant.2

pub returns-in-Some : goal.returns-in-Some
returns-in-Some c = finds_alike (table_of c.self.inside.fields) c.args.self.now c.args.name.now c.args.value.now c.find_by_hash.result (ap (λ (t : Table). t.fields) c.self.view_is) c.find_by_hash.ensures

pub returns-in-None : goal.returns-in-None
returns-in-None c = finds_alike (table_of c.self.inside.fields) c.args.self.now c.args.name.now c.args.value.now c.find_added.result (ap (λ (t : Table). t.fields) c.self.view_is) c.find_added.ensures
