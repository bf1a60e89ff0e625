use Rattle.std.proofs.Common.{◌≡◌, ◌<◌, ◌≤◌, ◌∙◌, refl, sym, ap, List, arith}
use Rattle.model.specs.Messages.{Field}
use Rattle.httparse.specs.Grammar.{status_code}
use Rattle.model.specs.ResponseHeads.{named_by_connection, framing_for}
use Rattle.std.specs.Prelude.{codes, Some}
use Rattle.model.specs.Http1.{values_of}
use Rattle.response_texts.specs.Heads.{framing_fault}
use Rattle.response_texts.specs.Framings.{framing_view}
use Rattle.response_texts.specs.HeadSizes.{field_octets}
use Rattle.response_texts.proofs.HeadSizeLemmas.{lines_taken}
use Rattle.response_texts.proofs.HeadLemmas.{taken, says, framed, opens, meant_at}
use Rattle.response_texts.proofs.PassedBack.{passed_back}
use Rattle.response_texts.proofs.FaultReads.{crowded, low, upgraded, unframed}
use Rattle.response_texts.proofs.head.take_head.Goals as goal

pub returns-then-found-gt-MOST_FIELDS : goal.returns-then-found-gt-MOST_FIELDS
returns-then-found-gt-MOST_FIELDS c = λ _. crowded c.args.to_head c.args.text.now c.args.spans.now c.args.found c.requires.is_head c.requires.within c.requires.short c.if-found-gt-MOST_FIELDS.true

pub returns-then-found-lt100 : goal.returns-then-found-lt100
returns-then-found-lt100 c = λ _. low c.args.to_head c.args.text.now c.args.spans.now c.args.found c.requires.is_head c.requires.within c.requires.short c.if-found-lt100.true

pub returns-then-found-eq101 : goal.returns-then-found-eq101
returns-then-found-eq101 c = λ _. upgraded c.args.to_head c.args.text.now c.args.spans.now c.args.found c.requires.is_head c.requires.within c.requires.short c.if-found-gt-MOST_FIELDS.false c.if-found-eq101.true

pub new-head-requires : goal.new-head-requires
new-head-requires c =
    let of = c.requires.is_head in
    passed_back _ of.0 _ (taken c.args.text.now c.args.spans.now c.args.found of c.requires.within (λ k. (c.type_inv.text k).fits) c.requires.short c.if-found-gt-MOST_FIELDS.false c.if-found-lt100.false c.if-found-eq101.false)
    (says c.args.text.now c.args.spans.now c.args.found c.in_ok-all.all.items c.in_ok-passed.passed.items (record { status = c.args.found.code; fields = c.in_ok-passed.passed.items }) of c.in_ok-all.ensures c.in_ok-passed.ensures refl refl)

pub new-head-requires-2 : goal.new-head-requires-2
new-head-requires-2 c =
    let of = c.requires.is_head in
    passed_back _ of.0 _ (taken c.args.text.now c.args.spans.now c.args.found of c.requires.within (λ k. (c.type_inv.text k).fits) c.requires.short c.if-found-gt-MOST_FIELDS.false c.if-found-lt100.false c.if-found-eq101.false)
    (says c.args.text.now c.args.spans.now c.args.found c.in_ok-all.all.items c.in_ok-passed-2.passed.items (record { status = c.args.found.code; fields = c.in_ok-passed-2.passed.items }) of c.in_ok-all.ensures c.in_ok-passed-2.ensures refl refl)

pub returns-then-found-lt200 : goal.returns-then-found-lt200
returns-then-found-lt200 c =
    let of = c.requires.is_head in
    let code : c.args.found.code ≡ status_code of.0 = of.1.code in
    let low : c.args.found.code < 200 = c.if-found-lt200.true in (
      c.requires.within.section.len_fits,
      record {
        spelled = of.0;
        taken = taken c.args.text.now c.args.spans.now c.args.found of c.requires.within (λ k. (c.type_inv.text k).fits) c.requires.short c.if-found-gt-MOST_FIELDS.false c.if-found-lt100.false c.if-found-eq101.false;
        is_interim = omega arith;
        says = says c.args.text.now c.args.spans.now c.args.found c.in_ok-all.all.items c.in_ok-passed.passed.items c.new-head.result of c.in_ok-all.ensures
            c.in_ok-passed.ensures c.new-head.ensures.status c.new-head.ensures.fields;
      },
    )

pub returns : goal.returns
returns c =
    let of = c.requires.is_head in
    let names : named_by_connection c.in_ok-connections.connections.items ≡ named_by_connection c.in_ok-all.all.items = c.in_ok-connections.ensures.names ∙ ap named_by_connection c.deref.ensures.value in
    let take' = taken c.args.text.now c.args.spans.now c.args.found of c.requires.within (λ k. (c.type_inv.text k).fits) c.requires.short c.if-found-gt-MOST_FIELDS.false c.if-found-lt100.false c.if-found-eq101.false in
    let lines = ap field_octets (c.deref.ensures.value ∙ c.in_ok-all.ensures ∙ meant_at c.args.text.now c.args.spans.now c.args.found.headers of.0.fields of.1.fields) in
    let size = lines_taken _ of.0 take' in
    let short = take'.is_short in
    let few = c.in_ok-connections.ensures.few in
    let code : c.args.found.code ≡ status_code of.0 = of.1.code in
    let high : 200 ≤ c.args.found.code = c.if-found-lt200.false in (
      c.requires.within.section.len_fits,
      (
        record {
          spelled = of.0;
          taken = taken c.args.text.now c.args.spans.now c.args.found of c.requires.within (λ k. (c.type_inv.text k).fits) c.requires.short c.if-found-gt-MOST_FIELDS.false c.if-found-lt100.false c.if-found-eq101.false;
          is_final = omega arith;
          framed = framed c.args.to_head c.args.text.now c.args.spans.now c.args.found c.in_ok-all.all.items (framing_view (named_by_connection c.in_ok-connections.connections.items) c.in-Ok.framing) of c.in_ok-all.ensures
              (ap (framing_for c.args.to_head c.args.found.version c.args.found.code) (sym c.deref-2.ensures.value) ∙ c.in-Ok.ensures ∙ ap (λ n. Some (framing_view n c.in-Ok.framing)) (ap named_by_connection c.deref-2.ensures.value ∙ sym names));
          says = says c.args.text.now c.args.spans.now c.args.found c.in_ok-all.all.items c.in_ok-passed-2.passed.items c.new-head-2.result of c.in_ok-all.ensures
              c.in_ok-passed-2.ensures c.new-head-2.ensures.status c.new-head-2.ensures.fields;
        },
        opens c.args.text.now c.args.spans.now c.args.found c.deref-4.result.now c.in_ok-all.all.items c.leave_open-stays.result of c.in_ok-all.ensures (ap named_by_connection c.deref-4.ensures.value ∙ names) c.leave_open-stays.ensures,
      ),
      omega (arith, few, size, lines, short),
    )

pub returns-in-Err : goal.returns-in-Err
returns-in-Err c =
    λ _. unframed c.args.to_head c.args.text.now c.args.spans.now c.args.found c.in_ok-all.all.items c.in-Err.fault c.requires.is_head c.requires.within c.requires.short c.in_ok-all.ensures c.if-found-gt-MOST_FIELDS.false
    c.if-found-lt200.false (ap (framing_for c.args.to_head c.args.found.version c.args.found.code) (sym c.deref-2.ensures.value) ∙ c.in-Err.ensures.0)
    (c.in-Err.ensures.1 ∙ ap (λ (fs : List Field). framing_fault (values_of (codes "transfer-encoding") fs)) c.deref-2.ensures.value)
