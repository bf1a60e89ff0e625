use Rattle.std.proofs.Common.{Ok, Err, arith}
use Rattle.std.proofs.lemmas.List.Sorted.{searched}
use Rattle.upstream_connections.proofs.Numbers.{none_falls}
use Rattle.upstream_connections.proofs.by_number.place_for.Goals as goal

pub returns-in-Ok-clause-before : goal.returns-in-Ok-clause-before
returns-in-Ok-clause-before c =
    let found = searched c.args.numbers.now c.args.k (Ok c.in-Ok.place) c.in-Ok.ensures.position (none_falls c.args.numbers.now c.requires) in
    λ i lt. let less = c.requires i c.in-Ok.place 0 lt found.0 in let same = found.1 in omega (arith, less, same)

pub returns-in-Ok-2-clause-before : goal.returns-in-Ok-2-clause-before
returns-in-Ok-2-clause-before c = (searched c.args.numbers.now c.args.k (Err c.in-Ok.place) c.in-Ok.ensures.position (none_falls c.args.numbers.now c.requires)).1

pub returns-in-Ok-2-clause-behind : goal.returns-in-Ok-2-clause-behind
returns-in-Ok-2-clause-behind c =
    let found = searched c.args.numbers.now c.args.k (Err c.in-Ok.place) c.in-Ok.ensures.position (none_falls c.args.numbers.now c.requires) in
    λ lt. let less = found.2 c.in-Ok.place (omega arith) lt in omega (arith, less)
