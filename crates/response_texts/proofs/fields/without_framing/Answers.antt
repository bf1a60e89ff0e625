use Rattle.std.proofs.Common.{◌≡◌, ◌≤◌, ◌∙◌, sym, ap, arith, length}
use Rattle.std.specs.Prelude.{codes}
use Rattle.std.proofs.lemmas.Bool.{cond-false}
use Rattle.model.specs.Http1.{values_of}
use Rattle.model.specs.ResponseHeads.{never_has_body, with_one}
use Rattle.response_texts.proofs.FieldLists.{one_alone}
use Rattle.response_texts.proofs.fields.without_framing.Goals as goal

pub returns-then-count-le1 : goal.returns-then-count-le1
returns-then-count-le1 c =
    let counted : c.count.result ≡ length (values_of (codes "content-length") c.deref.result.now) = c.count.ensures in
    let same : c.deref.result.now ≡ c.args.fields.items = c.deref.ensures.value in
    let there : length (values_of (codes "content-length") c.deref.result.now) ≡ length (values_of (codes "content-length") c.args.fields.items) = ap (λ o. length (values_of (codes "content-length") o)) same in
    let few : c.count.result ≤ 1 = c.if-count-le1.true in
    let one : length (values_of (codes "content-length") c.args.fields.items) ≤ 1 = omega arith in
    sym (one_alone (codes "content-length") c.args.fields.items one)
    ∙ sym (cond-false (never_has_body c.args.status) _ (with_one (codes "content-length") c.args.fields.items) (sym c.never_has_body.ensures ∙ c.if-never_has_body.false))
