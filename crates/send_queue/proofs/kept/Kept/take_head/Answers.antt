use Rattle.std.proofs.Common.{ap, ◌∙◌}
use Rattle.theory_responses.specs.Outbox.{part_of}
use Rattle.theory_responses.specs.State.{Kept}
use Rattle.send_queue.specs.Asked.{is_head}
use Rattle.send_queue.proofs.Heads.{no_head}
use Rattle.send_queue.proofs.kept.Kept.take_head.Goals as goal

pub unreachable-requires : goal.unreachable-requires
unreachable-requires c = no_head c.self.inside.outbox (ap (λ (k : Kept). is_head (part_of 1 k.box)) c.self.view_is ∙ c.requires) c.in_default.ensures.none
