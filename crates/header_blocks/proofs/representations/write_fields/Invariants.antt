use Rattle.std.proofs.Common.{◌≡◌, false, [], take}
use Rattle.model.specs.Octets.{IsFront}
use Rattle.header_blocks.specs.Bounds.{IsBounded}
use Rattle.header_blocks.specs.Encoding.{is_indexing}
use Rattle.header_blocks.specs.Encodes.{AddsFields}
use Rattle.header_blocks.proofs.representations.write_fields.Given as goal

abbrev pub invariant-loop-field : goal.invariant-loop-field
invariant-loop-field l = record {
  adds : AddsFields (is_indexing l.fn.rules.policy) l.fn.table (take l.field-index l.fields) l.table l.fn.out.items l.out.items;
  front : IsFront l.fn.out.items l.out.items;
  maximum : l.table.maximum ≡ l.fn.table.maximum;
  plain : is_indexing l.fn.rules.policy ≡ false → l.table.fields ≡ [];
  bounded : IsBounded l.fn.table → IsBounded l.table;
}
