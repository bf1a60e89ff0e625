-- What changes a table keeps its bounds.
use Rattle.std.proofs.Common.{◌≡◌, ◌≤◌, ℕ, ◌∷◌, Result, Ok, Err, OnOk, OnErr, arith, subst, sym}
use Rattle.model.specs.Messages.{Field}
use Rattle.model.specs.Tables.{Table, added, resized}
use Rattle.model.specs.Limits.{first_maximum}
use Rattle.model.proofs.KeepLemmas.{keep_fits}
use Rattle.header_blocks.specs.Bounds.{IsBounded}

pub bounded_resized : (maximum : ℕ) (old new : Table) → maximum ≤ first_maximum → new ≡ resized maximum old → IsBounded new
bounded_resized maximum old new le e =
    let fits = keep_fits maximum old.fields in
    subst IsBounded (sym e) (record { maximum = le; sizes = omega (arith, fits, le) })

pub bounded_added : (field : Field) (old new : Table) → new ≡ added field old → IsBounded old → IsBounded new
bounded_added field old new e b =
    let fits = keep_fits old.maximum (field ∷ old.fields) in
    let le = b.maximum in
    subst IsBounded (sym e) (record { maximum = le; sizes = omega (arith, fits, le) })

pub bounded_if_added : {U E : Type 0} (r : Result U E) (field : Field) (old new : Table) → OnOk r (new ≡ added field old) → OnErr r (new ≡ old) → IsBounded old → IsBounded new
bounded_if_added (Ok done) field old new e same b = bounded_added field old new e b
bounded_if_added (Err error) field old new e same b = subst IsBounded (sym same) b
