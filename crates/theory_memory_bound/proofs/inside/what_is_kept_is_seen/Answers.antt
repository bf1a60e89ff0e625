use Rattle.std.proofs.Common.{length}
use Rattle.h1_reader.specs.HeadSizes.{field_octets}
use Rattle.theory_responses.specs.Held.{octets_of_fields}
use Rattle.theory_memory_bound.proofs.HeldInside.{none_more, parts, within_table, read}
use Rattle.theory_memory_bound.proofs.inside.what_is_kept_is_seen.Goals as goal

pub returns-clause-field : goal.returns-clause-field
returns-clause-field c = λ field sound. parts field.split field.text.items sound

pub returns-clause-table : goal.returns-clause-table
returns-clause-table c = λ table. within_table table.index table.fields

pub returns-clause-head : goal.returns-clause-head
returns-clause-head c = λ head. none_more (octets_of_fields head.fields.items)

pub returns-clause-reader : goal.returns-clause-reader
returns-clause-reader c = λ reader. read reader.spans.items (length reader.held.items) (field_octets reader.connections.items)
