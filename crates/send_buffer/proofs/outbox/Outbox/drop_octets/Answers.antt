use Rattle.std.proofs.Common.{rules, ◌≡◌, ◌<◌, true, length, sym, ap, subst, ◌∙◌}
use Rattle.theory_responses.specs.Outbox.{is_plain, part_of, left}
use Rattle.theory_responses.specs.Outbox.Outbox.{Behind, Over}
use Rattle.send_buffer.specs.Views.{end_in, HasNoOctets}
use Rattle.send_buffer.proofs.Sent as laws
use Rattle.send_buffer.proofs.outbox.Outbox.drop_octets.Goals as goal
use Rattle.send_buffer.proofs.outbox.Outbox.drop_octets.Goals.{in-Before+in-Some+in-Some-sent-5, in-Before+in-Some+in-None-1, in-Before+in-None-1, in-Behind+in-Some+in-Some-sent-8, in-Behind+in-Some+in-None-1, in-Behind+in-None-1, in-Over-1}

pub returns-then-most-len-clause-octets : goal.returns-then-most-len-clause-octets
returns-then-most-len-clause-octets c =
    let old : c.args.self.now ≡ Behind c.in-Behind.body (end_in c.in-Behind.whole) = search rules in
    let more : c.args.most < length c.in-Behind.body = search rules in
    λ part is octets. ap (λ octets. Behind octets (end_in c.in-Behind.whole)) c.pass.ensures
    ∙ laws.left_some c.args.most c.in-Behind.body (end_in c.in-Behind.whole) part more (sym (ap (part_of c.args.most) old) ∙ is) ∙ ap (λ box. left box part) (sym old)

pub returns-then-is_plain-clause-octets : goal.returns-then-is_plain-clause-octets
returns-then-is_plain-clause-octets c =
    let old : c.args.self.now ≡ Behind c.in-Behind.body (end_in c.in-Behind.whole) = search rules in
    let plain : is_plain (end_in c.in-Behind.whole) ≡ true = search rules in
    let few : c.args.most < length c.in-Behind.body → ⊥ = search rules in
    let over : c.match-sent.self ≡ Over = elim c.match-sent.branch [ in-Before+in-Some+in-Some-sent-5 w ↦ search rules | in-Before+in-Some+in-None-1 w ↦ search rules | in-Before+in-None-1 w ↦ search rules | in-Behind+in-Some+in-Some-sent-8 w ↦ search rules | in-Behind+in-Some+in-None-1 w ↦ search rules | in-Behind+in-None-1 w ↦ search rules | in-Over-1 w ↦ search rules ] in
    λ part is octets. over ∙ laws.left_plain c.args.most c.in-Behind.body (end_in c.in-Behind.whole) part few plain (sym (ap (part_of c.args.most) old) ∙ is) ∙ ap (λ box. left box part) (sym old)

pub returns-then-most-len-clause-others : goal.returns-then-most-len-clause-others
returns-then-most-len-clause-others c =
    let old : c.args.self.now ≡ Behind c.in-Behind.body (end_in c.in-Behind.whole) = search rules in
    let more : c.args.most < length c.in-Behind.body = search rules in
    λ others. absurd (laws.more_are_next c.args.most c.in-Behind.body (end_in c.in-Behind.whole) more (subst (λ box. HasNoOctets (part_of c.args.most box)) old others))

pub returns-then-is_plain-clause-others : goal.returns-then-is_plain-clause-others
returns-then-is_plain-clause-others c =
    let old : c.args.self.now ≡ Behind c.in-Behind.body (end_in c.in-Behind.whole) = search rules in
    let plain : is_plain (end_in c.in-Behind.whole) ≡ true = search rules in
    λ others. absurd (laws.plain_is_next c.args.most c.in-Behind.body (end_in c.in-Behind.whole) plain (subst (λ box. HasNoOctets (part_of c.args.most box)) old others))
