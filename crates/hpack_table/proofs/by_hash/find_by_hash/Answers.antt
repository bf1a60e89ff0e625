use Rattle.std.proofs.Common.{arith}
use Rattle.std.proofs.lemmas.Option.{slice_get_within}
use Rattle.hpack_table.proofs.ByHash.{finds_name, finds_nothing, finds_static_name, finds_text, unnamed}
use Rattle.hpack_table.proofs.by_hash.find_by_hash.Goals as goal

pub returns-in-Some : goal.returns-in-Some
returns-in-Some c = finds_text c.args.fields.now c.args.name.now c.args.value.now c.in-Some.place c.args.found c.requires.seeks c.in-Some.ensures

pub returns-in-Name : goal.returns-in-Name
returns-in-Name c = rw c.in-Name.is (finds_static_name c.args.fields.now c.args.name.now c.args.value.now c.in-Name.field-0 (rw c.in-Name.is at c.requires.seeks) c.in_default.ensures)

pub overflow_cast-result-in-Some-name_place : goal.overflow_cast-result-in-Some-name_place
overflow_cast-result-in-Some-name_place c = let within = slice_get_within c.args.fields.now c.in-Some-name_place.place _ c.in-Some-name_place.ensures.here in let few = c.requires.few in omega (arith, within, few)

pub overflow_add-result-in-Some-name_place : goal.overflow_add-result-in-Some-name_place
overflow_add-result-in-Some-name_place c = let within = slice_get_within c.args.fields.now c.in-Some-name_place.place _ c.in-Some-name_place.ensures.here in let few = c.requires.few in omega (arith, within, few)

pub returns-in-Some-name_place : goal.returns-in-Some-name_place
returns-in-Some-name_place c =
    let unnamed_there = unnamed c.args.fields.now c.args.name.now c.args.value.now c.args.found c.requires.seeks c.in_default-found.not-Name in
    finds_name c.args.fields.now c.args.name.now c.args.value.now c.in-Some-name_place.place unnamed_there c.in_default.ensures c.in-Some-name_place.ensures

pub returns-in-None : goal.returns-in-None
returns-in-None c =
    let unnamed_there = unnamed c.args.fields.now c.args.name.now c.args.value.now c.args.found c.requires.seeks c.in_default-found.not-Name in
    finds_nothing c.args.fields.now c.args.name.now c.args.value.now unnamed_there c.in-None.ensures
