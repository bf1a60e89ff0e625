use Rattle.request_rules.proofs.RuleTests.{not_known, is_known, match_pseudo}
use Rattle.request_rules.proofs.rules.pseudo_fields_hold.Goals as goal

pub returns-then-not-are_known : goal.returns-then-not-are_known
returns-then-not-are_known c p = not_known c.are_known.result c.args.head.now c.are_known.ensures c.if-not-are_known.true p.known

pub returns : goal.returns
returns c = match_pseudo c.authority_count_holds.result c.is_connect-connect.result c.parts_of-parts.result c.args.head.now c.is_connect-connect.ensures c.parts_of-parts.ensures
    c.if-not-stand_first.ensures (is_known c.are_known.result c.args.head.now c.are_known.ensures c.if-not-are_known.false)
    c.if-not-has.ensures c.if-not-has-2.ensures c.if-not-has-3.ensures c.authority_count_holds.ensures
