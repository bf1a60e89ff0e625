use Rattle.std.specs.Prelude.{◌&&◌, nat_le, length, codes}
use Rattle.model.specs.Octets.{some_of, is_digit}
use Rattle.model.specs.Http2.{LengthFieldHolds}
use Rattle.request_rules.proofs.RuleTests.{match_named, match_map}
use Rattle.request_rules.proofs.rules.length_field_holds.Goals as goal

pub returns : goal.returns
returns c =
    let digits = match_named (codes "content-length") (λ value. some_of is_digit value && nat_le (length value) 18) c.lengths_hold.result c.args.head.now c.lengths_hold.ensures in
    match_map c.lengths_hold.result _ (LengthFieldHolds c.args.head.now) (λ p. record { one = c.if-not-has_at_most_one.ensures; digits = p }) (λ p. p.digits) digits
