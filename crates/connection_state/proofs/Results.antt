-- What the answers of a decoder say, whatever they are.
use Rattle.std.proofs.Common.{◌≡◌, ℕ, List, Option, None, Ok, Err, IfOk}
use Rattle.std.specs.Prelude.{Result, IfErr}
use Rattle.model.specs.Tables.{Table}
use Rattle.model.specs.Blocks.{NoBlock}
use Rattle.header_blocks.specs.Decoding.{DecodesFrom}
use Rattle.header_blocks.specs.Represented.{UnlessMemory}
use Rattle.header_blocks.specs.declared.gather.Decoded.{Decoded}
use Rattle.header_blocks.specs.declared.fault.DecodeFault.{DecodeFault}
use Rattle.theory_header_tables.specs.Answers.{IsReadAs, IsUnreadAs}
use Rattle.theory_header_tables.proofs.Answering.{read_by_answer, read_by_fault}

pub read_on_ok : (table next : Table) (octets : List ℕ) (cap : ℕ) (r : Result Decoded DecodeFault) → IfOk r (λ decoded. DecodesFrom table octets cap next decoded) → IfOk r (λ decoded. IsReadAs table octets cap decoded next)
read_on_ok table next octets cap (Ok decoded) h = read_by_answer table next octets cap decoded h
read_on_ok table next octets cap (Err fault) h = tt

pub unread_on_err : (table : Table) (octets : List ℕ) (before : Option DecodeFault) (r : Result Decoded DecodeFault) → before ≡ None → IfErr r (λ fault. before ≡ None → UnlessMemory fault (NoBlock table octets)) → IfErr r (IsUnreadAs table octets)
unread_on_err table octets before (Ok decoded) none h = tt
unread_on_err table octets before (Err fault) none h = read_by_fault table octets fault (h none)
