use Rattle.response_texts.proofs.TrailerLemmas.{whole_trailers}
use Rattle.response_texts.proofs.FaultReads.{many_trailers}
use Rattle.response_texts.proofs.trailers.take_trailers.Goals as goal

pub returns-then-count-gt-MOST_FIELDS : goal.returns-then-count-gt-MOST_FIELDS
returns-then-count-gt-MOST_FIELDS c =
    λ _. many_trailers c.args.text.now c.args.spans.now c.args.used c.args.count c.requires.within c.requires.are c.requires.short c.if-count-gt-MOST_FIELDS.true

pub returns : goal.returns
returns c =
    whole_trailers c.args.text.now c.args.spans.now c.args.used c.args.count c.requires.within c.requires.are c.if-count-gt-MOST_FIELDS.false c.requires.short (λ k. (c.type_inv.text k).fits)
    c.args.connections.now c.in_ok-all.all.items c.in_ok-trailers.trailers.items c.in_ok-all.ensures c.in_ok-trailers.ensures
