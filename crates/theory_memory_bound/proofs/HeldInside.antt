-- What lies in what the session keeps is what is seen of it.
use Rattle.std.proofs.Common.{◌≡◌, ℕ, ◌+◌, ◌≤◌, List, [], ◌∷◌, length, take, drop, Option, Some, None, refl, arith}
use Rattle.std.specs.Prelude.{sum_by}
use Rattle.std.proofs.lemmas.List.{length-take-le, length-drop}
use Rattle.std.proofs.lemmas.List.Sums.{sum_by-cons}
use Rattle.model.specs.Messages.{Field}
use Rattle.model.specs.Decoding.{Partial}
use Rattle.model.specs.Tables.{total_size}
use Rattle.theory_errors.specs.Held.{octets_begun}
use Rattle.theory_responses.specs.Held.{octets_of_fields}
use Rattle.httparse.specs.declared.spans.HeaderSpan.{HeaderSpan}
use Rattle.theory_memory_bound.specs.HeldInside.{in_span}
use Rattle.hpack_table.specs.HeldInside.{in_number, in_index_if}
use Rattle.hpack_table.specs.declared.index.Index.{Index}
use Rattle.header_blocks.specs.HeldInside as blocks

-- what is counted of numbers adds nothing
pub none_more : (n : ℕ) → 0 + n ≡ n
none_more n = omega arith

-- two parts of a list
pub parts : (split : ℕ) (text : List ℕ) → split ≤ length text → 0 + length text ≡ length (take split text) + length (drop split text)
parts split text within = omega (arith, length-take-le split text within, length-drop split text, within)

-- fields have no more octets than their size
within_size : (fields : List Field) → octets_of_fields fields ≤ total_size fields
unfolding total_size
within_size [] = omega arith
within_size (field ∷ fields) = omega (arith, sum_by-cons (λ (f : Field). length f.name + length f.value) field fields, within_size fields)

-- spans of what a reader reads are numbers
spans_are_numbers : (spans : List HeaderSpan) → sum_by in_span spans ≡ 0
spans_are_numbers [] = refl
spans_are_numbers (span ∷ spans) = omega (arith, sum_by-cons in_span span spans, spans_are_numbers spans)

pub read : (spans : List HeaderSpan) (held connections : ℕ) → 0 + held + connections + sum_by in_span spans ≡ held + connections
read spans held connections = omega (arith, spans_are_numbers spans)

-- an index has numbers alone
numbers : (ns : List ℕ) → sum_by in_number ns ≡ 0
numbers [] = refl
numbers (n ∷ ns) = omega (arith, sum_by-cons in_number n ns, numbers ns)

index_is : (index : Option Index) → in_index_if index ≡ 0
index_is None = refl
index_is (Some index) = omega (arith, numbers index.names, numbers index.texts)

-- so a table has no more octets than its size
pub within_table : (index : Option Index) (fields : List Field) → 0 + in_index_if index + octets_of_fields fields ≤ total_size fields
within_table index fields = omega (arith, index_is index, within_size fields)

-- one count of a block that was begun is the other
begun_is : (block : Option Partial) → blocks.octets_begun block ≡ octets_begun block
begun_is None = refl
begun_is (Some block) = refl

-- and what lies in a connection is that and a table's fields
pub begun_and : (block : Option Partial) (fields : ℕ) → 0 + blocks.octets_begun block + fields ≡ octets_begun block + fields
begun_and block fields = omega (arith, begun_is block)

-- all that lies in a session, beside numbers
pub all : (block inbound encoder streams : ℕ) → 0 + block + inbound + encoder + streams ≡ block + inbound + encoder + streams
all block inbound encoder streams = omega arith
