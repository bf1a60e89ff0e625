-- What lies in a decoder is no more than what is seen of it.
use Rattle.std.proofs.Common.{◌≡◌, ◌≤◌, List, [], Option, Some, None, refl, sym, subst, arith}
use Rattle.model.specs.Messages.{Field}
use Rattle.model.specs.Tables.{Table, total_size}
use Rattle.header_blocks.specs.Bounds.{IsBounded}
use Rattle.header_blocks.specs.Directions.{table_behind}
use Rattle.header_blocks.specs.declared.fault.DecodeFault.{DecodeFault}

-- behind a fault lies an empty table, and the one before the block is seen
pub empty_behind : (fault : Option DecodeFault) (before table seen : Table) (fields : List Field) → fault ≡ None → seen ≡ table → fields ≡ []
    → IsBounded (table_behind fault before table) → IsBounded seen × (total_size fields ≤ total_size seen.fields)
unfolding total_size
empty_behind None before table seen fields none same empty bounded =
    (subst IsBounded (sym same) bounded, subst (λ fs. total_size fs ≤ total_size seen.fields) (sym empty) (let nothing : total_size [] ≡ 0 = refl in omega (arith, nothing)))
empty_behind (Some fault) before table seen fields none same empty bounded = absurd (let clash : ◌≡◌ {A = Option DecodeFault} (Some fault) None = none in cc)
