use Rattle.std.proofs.Common.{sym, ◌∙◌}
use Rattle.std.specs.Prelude.{codes, bytes_eq}
use Rattle.model.specs.Octets.{lower}
use Rattle.request_rules.proofs.FieldLists.{named_all}
use Rattle.request_rules.proofs.RuleTests.{match_authority, no_authority}
use Rattle.request_rules.proofs.rules.authority_holds.Goals as goal

pub returns-then-not-are_alike : goal.returns-then-not-are_alike
returns-then-not-are_alike c = no_authority c.args.head.now (rw (← c.authority-authority.ensures) (sym c.are_alike.ensures ∙ c.if-not-are_alike.true))

pub returns : goal.returns
returns c = match_authority c.are_alike-2.result c.args.head.now c.if-not-has_at_most_one.ensures
    (rw (← c.authority-authority.ensures) (sym c.is_authority.ensures ∙ c.if-not-is_authority.false))
    (rw (← c.authority-authority.ensures) (sym (named_all (codes ":authority") (λ value. bytes_eq (lower value) (lower c.authority-authority.result.now)) c.args.head.now) ∙ sym c.are_alike.ensures ∙ c.if-not-are_alike.false))
    (rw (← c.authority-authority.ensures) c.are_alike-2.ensures)
