use Rattle.std.proofs.Common.{sym, ◌∙◌, ap, Vec, Global, take}
use Rattle.std.specs.Prelude.{codes, ◌||◌, bytes_eq}
use Rattle.std.specs.List.{list_any}
use Rattle.model.specs.Messages.{Field}
use Rattle.response_texts.proofs.FieldLists.{any_more, taken_more, kept_to, dropped_to}
use Rattle.response_texts.proofs.fields.push_with_one_length.Goals as goal
use Rattle.response_texts.proofs.fields.push_with_one_length.Goals.{then-is_kept+in_ok-copy+in_ok-push, else-is_kept}

pub loop-field-preserved : goal.loop-field-preserved
loop-field-preserved c =
    let more = taken_more c.args.fields.now c.loop-field.field-index c.field-item.result c.loop-field-test.true c.field-item.is in
    record {
      out = elim c.if-is_kept.branch [
        | then-is_kept+in_ok-copy+in_ok-push w ↦
            ap (λ (v : Vec Field Global). v.items) w.out-is ∙ w.in_ok-push.ensures.items
            ∙ kept_to (codes "content-length") c.args.out.now.items c.loop-field.out.items c.args.fields.now c.loop-field.field-index c.field-item.result _ c.loop-field.found _
            c.loop-field.invariant.out c.loop-field.invariant.found (c.is_kept.ensures) w.if-is_kept.true w.in_ok-copy.ensures more
        | else-is_kept w ↦
            ap (λ (v : Vec Field Global). v.items) w.out-is
            ∙ dropped_to (codes "content-length") c.args.out.now.items c.loop-field.out.items c.args.fields.now c.loop-field.field-index c.field-item.result c.loop-field.found _
            c.loop-field.invariant.out c.loop-field.invariant.found (c.is_kept.ensures) w.if-is_kept.false more
      ];
      found = c.is_found-found.ensures ∙ ap (λ t. t || bytes_eq c.field-item.result.name (codes "content-length")) c.loop-field.invariant.found
          ∙ sym (any_more (codes "content-length") (take c.loop-field.field-index c.args.fields.now) c.field-item.result)
          ∙ ap (list_any (λ field. bytes_eq field.name (codes "content-length"))) (sym more);
    }
