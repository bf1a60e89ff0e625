use Rattle.std.proofs.Common.{◌≡◌, ◌++◌, take}
use Rattle.std.specs.Prelude.{codes, bytes_eq}
use Rattle.std.specs.List.{list_any}
use Rattle.model.specs.ResponseHeads.{with_one}
use Rattle.response_texts.proofs.fields.push_with_one_length.Given as goal

abbrev pub invariant-loop-field : goal.invariant-loop-field
invariant-loop-field l = record {
  out : l.out.items ≡ l.initial.out.items ++ with_one (codes "content-length") (take l.field-index l.fields);
  found : l.found ≡ list_any (λ field. bytes_eq field.name (codes "content-length")) (take l.field-index l.fields);
}
