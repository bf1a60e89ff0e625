-- What a look-up of a stream says, and results.
use Rattle.std.proofs.Common.{◌≡◌, ℕ, true, false, List, Option, Some, None, Result, Ok, Err, OnOk, IfOk, ◌≤◌, subst, ◌∙◌}
use Rattle.std.specs.Prelude.{IfSome, IfNone, is_some}
use Rattle.theory_errors.specs.Summary.{Stream as Kept}
use Rattle.theory_errors.specs.Rows.{Row}
use Rattle.theory_errors.specs.Judging.{is_over_in}
use Rattle.streams.specs.Asked.{is_active, IsLive}
use Rattle.model.specs.Tables.{Table, total_size}
use Rattle.header_blocks.specs.declared.fault.DecodeFault.{DecodeFault}
use Rattle.header_blocks.specs.declared.fault.DecodeFault.TheVariants.{Integer, Text, Index, Maximum, Late, Cut, Memory}
use Rattle.model.specs.Messages.{Field}
use Rattle.model.specs.Limits.{largest_fields}
use Rattle.header_blocks.specs.declared.gather.Decoded.{Decoded}
use Rattle.header_blocks.specs.declared.gather.Decoded.TheVariants.{Fields as Fits, TooLarge}
use Rattle.connection_state.specs.Blocks.{AreFitting}
use Rattle.theory_header_tables.specs.Answers.{IsUnreadAs, IsNoteFor}
use Rattle.connection_state.specs.Fragments.{IsUndecodable, is_memory}
use Rattle.connection_state.proofs.BlockRows.{active_of}
use Rattle.std.proofs.Common.{ap}

-- a stream that is found is active
pub active_live : (rows : List Row) (id : ℕ) (kept : Kept) → IsLive rows id kept → is_active rows id ≡ true
active_live rows id kept is = active_of rows id is.has_row (ap is_over_in is.found ∙ is.goes_on)

pub active_found : {A : Type 0} (view : A → Kept) (rows : List Row) (id : ℕ) (found : Option A) → is_some found ≡ true → IfSome found (λ a. IsLive rows id (view a)) → is_active rows id ≡ true
active_found view rows id (Some a) some is = active_live rows id (view a) is
active_found view rows id None some is = absurd (let no : false ≡ true = some in cc)

-- and else none is
pub none_found : {A : Type 0} (rows : List Row) (id : ℕ) (found : Option A) → is_some found ≡ false → IfNone found (is_active rows id ≡ false) → is_active rows id ≡ false
none_found rows id (Some a) none is = absurd (let no : true ≡ false = none in cc)
none_found rows id None none is = is

-- what holds behind a call that succeeds
pub on_ok : {T E P Q : Type 0} (r : Result T E) → OnOk r P → (P → Q) → OnOk r Q
on_ok (Ok x) p to = to p
on_ok (Err e) p to = tt

pub if_ok : {T E : Type 0} {P Q : T → Type 0} (r : Result T E) → IfOk r P → ((a : T) → P a → Q a) → IfOk r Q
if_ok (Ok x) p to = to x p
if_ok (Err e) p to = tt

-- a block that can't be read, where memory wasn't refused
pub undecodable : (table : Table) (octets : List ℕ) (fault : DecodeFault) → is_memory fault ≡ false → IsUnreadAs table octets fault → IsUndecodable table octets
undecodable table octets Memory none unread = absurd (let no : true ≡ false = none in cc)
undecodable table octets Integer none unread = unread.is_noted
undecodable table octets Text none unread = unread.is_noted
undecodable table octets Index none unread = unread.is_noted
undecodable table octets Maximum none unread = unread.is_noted
undecodable table octets Late none unread = unread.is_noted
undecodable table octets Cut none unread = unread.is_noted

-- what holds of an option's content
pub some_so : {A : Type 0} (P : A → Type 0) (o : Option A) (a : A) → o ≡ Some a → IfSome o P → P a
some_so P o a is holds = subst (λ x. IfSome x P) is holds

pub none_so : {A X : Type 0} (o : Option A) → o ≡ None → IfNone o X → X
none_so {A} {X} o is holds = subst (λ (x : Option A). IfNone x X) is holds

-- the fields that were answered fit
pub fits_of : (d : Decoded) (fields : List Field) → IsNoteFor largest_fields d fields → AreFitting d
fits_of (Fits read) fields is = subst (λ (xs : List Field). total_size xs ≤ largest_fields) is.0 is.1
fits_of TooLarge fields is = tt
