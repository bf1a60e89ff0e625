use Rattle.std.proofs.Common.{sym, ◌∙◌}
use Rattle.local_replies.proofs.Routes.{none_found, first_found}
use Rattle.local_replies.proofs.route.find_route.Goals as goal

pub returns-in_default : goal.returns-in_default
returns-in_default c = none_found _ c.args.routes.now (sym c.first_match.ensures ∙ c.in_default.is)

pub returns : goal.returns
returns c = first_found c.args.routes.now c.args.authority.now c.args.path.now c.in-Some.place (sym c.in-Some.ensures)
