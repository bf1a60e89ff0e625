use Rattle.std.proofs.Common.{◌∙◌}
use Rattle.local_replies.proofs.Routes.{front_told}
use Rattle.local_replies.proofs.route.begins_with.Goals as goal

pub returns : goal.returns
returns c = c.starts_with.ensures.value ∙ front_told c.args.front.now c.args.text.now
