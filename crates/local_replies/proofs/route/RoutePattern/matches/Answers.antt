use Rattle.std.proofs.Common.{rules}
use Rattle.local_replies.proofs.Routes.{match_told}
use Rattle.local_replies.proofs.route.RoutePattern.matches.Goals as goal

pub returns-then-is_for_authority-clause-is : goal.returns-then-is_for_authority-clause-is
returns-then-is_for_authority-clause-is c = match_told c.is_for_path.result c.args.self.now c.args.authority.now c.args.path.now (search rules)
