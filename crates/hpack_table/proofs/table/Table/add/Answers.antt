use Rattle.std.proofs.Common.{List, ◌∷◌, arith, ap, sym, ◌∙◌}
use Rattle.model.specs.Messages.{Field}
use Rattle.model.specs.Tables.{Table, total_size}
use Rattle.hpack_table.proofs.ByHash.{index_kept}
use Rattle.hpack_table.proofs.Kept.{keep_none, total_none, added_size}
use Rattle.hpack_table.proofs.table.Table.add.Goals as goal

pub invariant_of-self : goal.invariant_of-self
invariant_of-self c = (sym (ap total_size c.clear.ensures ∙ total_none), omega arith, c.self.invariant.2, λ x e. rw c.clear.ensures (c.shorten.ensures c.self.inside.fields c.self.invariant.3 x e))

pub returns-in_default-clause-ok : goal.returns-in_default-clause-ok
returns-in_default-clause-ok c =
    rw (← c.self.view_is) (ap (λ (f : List Field). let table : Table = record { fields = f; maximum = c.self.inside.maximum } in table)
    (c.clear.ensures ∙ sym (keep_none c.self.inside.maximum c.args.field c.self.inside.fields c.in_default.ensures)))

pub insert-requires : goal.insert-requires
insert-requires c = added_size c.self.inside.fields c.args.field c.self.inside.size c.self.inside.maximum c.in-Some.room c.self.invariant.0 c.in-Some.ensures.0 c.in-Some.ensures.1

pub invariant_of-self-2 : goal.invariant_of-self-2
invariant_of-self-2 c = (
  c.evict-self-inside.ensures.size,
  c.evict-self-inside.ensures.fits,
  c.self.invariant.2,
  index_kept c.enter.new.index c.shorten-2.new.index (c.args.field ∷ c.self.inside.fields) c.evict-self-inside.new.fields c.self.inside.maximum c.len.result (c.in_ok-enter.ensures.ok c.self.inside.fields c.self.invariant.3)
      c.shorten-2.ensures (c.evict-self-inside.ensures.kept ∙ c.in-Ok.ensures.kept) c.len.ensures,
)
