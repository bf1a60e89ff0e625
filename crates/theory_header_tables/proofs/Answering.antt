-- What the contracts of header blocks say to the rule.
use Rattle.std.proofs.Common.{◌≡◌, ℕ, List, refl, sym, subst}
use Rattle.model.specs.Tables.{Table}
use Rattle.model.specs.Blocks as blocks
use Rattle.model.specs.Decoding.{Partial}
use Rattle.header_blocks.specs.Decoding.{DecodesFrom}
use Rattle.header_blocks.specs.Represented.{UnlessMemory}
use Rattle.header_blocks.specs.declared.gather.Decoded.{Decoded}
use Rattle.header_blocks.specs.declared.gather.Decoded.TheVariants.{Fields, TooLarge}
use Rattle.header_blocks.specs.declared.fault.DecodeFault.{DecodeFault}
use Rattle.header_blocks.specs.declared.fault.DecodeFault.TheVariants.{Integer, Text, Index, Maximum, Late, Cut, Memory}
use Rattle.theory_header_tables.specs.Answers.{IsReadAs, IsUnreadAs}

-- a block that was decoded, whether its fields fit or not
pub read_by_answer : (table next : Table) (octets : List ℕ) (cap : ℕ) (decoded : Decoded) → DecodesFrom table octets cap next decoded → IsReadAs table octets cap decoded next
read_by_answer table next octets cap (Fields fields) d =
    record { fields = fields.items; of_answer = (refl, d.fits); is_noted = λ block is. subst (λ o. blocks.Block table o fields.items next) (sym is) d.is_block }
read_by_answer table next octets cap TooLarge d =
    record { fields = d.fields; of_answer = d.over; is_noted = λ block is. subst (λ o. blocks.Block table o d.fields next) (sym is) d.is_block }

none_read : (table : Table) (octets : List ℕ) → blocks.NoBlock table octets → (block : Partial) → block.fragments ≡ octets → blocks.NoBlock table block.fragments × (table ≡ table)
none_read table octets none block is = (subst (blocks.NoBlock table) (sym is) none, refl)

-- one that wasn't: the table stays as it was, as the other side has it
pub read_by_fault : (table : Table) (octets : List ℕ) (fault : DecodeFault) → UnlessMemory fault (blocks.NoBlock table octets) → IsUnreadAs table octets fault
read_by_fault table octets Memory none = record { is_noted = λ block is. refl }
read_by_fault table octets Integer none = record { is_noted = none_read table octets none }
read_by_fault table octets Text none = record { is_noted = none_read table octets none }
read_by_fault table octets Index none = record { is_noted = none_read table octets none }
read_by_fault table octets Maximum none = record { is_noted = none_read table octets none }
read_by_fault table octets Late none = record { is_noted = none_read table octets none }
read_by_fault table octets Cut none = record { is_noted = none_read table octets none }
