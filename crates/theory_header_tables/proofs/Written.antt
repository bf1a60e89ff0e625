-- What the encoder chooses is what the policy says.
use Rattle.std.proofs.Common.{◌≡◌, ℕ, true, false, List, [], ◌∷◌, refl, ◌∙◌, inl, inr}
use Rattle.model.specs.Messages.{Field}
use Rattle.model.specs.Tables.{Table}
use Rattle.model.specs.Blocks.{Represents, AreFields}
use Rattle.model.specs.Setup.{Policy}
use Rattle.model.specs.Setup.Policy.{Plain, Indexing}
use Rattle.model.specs.Synchrony.{IsWritten, AreWritten, AreWrittenBy}
use Rattle.header_blocks.specs.Chosen.{IsChosen, AreChosen}
use Rattle.theory_header_tables.specs.State.{inserts}

-- with fields in the table
one_written : (table next : Table) (octets : List ℕ) (field : Field) → IsChosen true table octets field next → IsWritten table octets field next
one_written table next octets field (inl c) = inl (record { indexed = c.indexed; least = record { here = c.least.here; least = c.least.least } })
one_written table next octets field (inr (inl c)) = inr (inl (record { absent = c.absent; fits = c.fits; inserted = c.inserted }))
one_written table next octets field (inr (inr c)) = inr (inr (record { absent = c.absent; too_large = c.too_large refl; left_out = c.left_out }))

all_written : (table next : Table) (octets : List ℕ) (fields : List Field) → AreChosen true table octets fields next → AreWritten table octets fields next
all_written table next octets [] h = h
all_written table next octets (field ∷ fields) h = (h.0, h.1, h.2, h.3, one_written table h.2 h.0 field h.4, all_written h.2 next h.1 fields h.5)

-- without them
one_plain : (table next : Table) (octets : List ℕ) (field : Field) → IsChosen false table octets field next → Represents table octets field next × (next ≡ table)
one_plain table next octets field (inl c) = (inl c.indexed, c.indexed.same)
one_plain table next octets field (inr (inl c)) = absurd (let no : false ≡ true = c.is_indexing in cc)
one_plain table next octets field (inr (inr c)) = (inr (inr (inl c.left_out)), c.left_out.same)

all_plain : (table next : Table) (octets : List ℕ) (fields : List Field) → AreChosen false table octets fields next → AreFields table octets fields next × (next ≡ table)
all_plain table next octets [] h = (h, h.1)
all_plain table next octets (field ∷ fields) h =
    let one = one_plain table h.2 h.0 field h.4 in
    let rest = all_plain h.2 next h.1 fields h.5 in
    ((h.0, h.1, h.2, h.3, one.0, rest.0), rest.1 ∙ one.1)

pub written_by : (policy : Policy) (table next : Table) (octets : List ℕ) (fields : List Field) → AreChosen (inserts policy) table octets fields next → AreWrittenBy policy table octets fields next
written_by Plain table next octets fields h = all_plain table next octets fields h
written_by Indexing table next octets fields h = all_written table next octets fields h
