use Rattle.std.proofs.Common.{subst, take}
use Rattle.hpack_table.specs.Indexing.{IsIndexOf}
use Rattle.hpack_table.specs.declared.index.Index.{Index}
use Rattle.hpack_table.proofs.ByHash.{index_front, same_index}
use Rattle.hpack_table.proofs.index.shorten.Goals as goal

pub returns-in-Some : goal.returns-in-Some
returns-in-Some c = λ fields before x e.
    let entries = index_front c.in-Some.index _ fields c.args.count (before c.in-Some.index c.in-Some.is) c.keep.ensures c.keep-in-Some.ensures in
    subst (λ (i : Index). IsIndexOf i (take c.args.count fields)) (same_index _ x e) entries
