use Rattle.std.proofs.Common.{ap, ◌∙◌}
use Rattle.theory_responses.specs.Outbox.{part_of}
use Rattle.theory_responses.specs.State.{Kept}
use Rattle.send_queue.specs.Asked.{are_trailers}
use Rattle.send_queue.proofs.Heads.{no_trailers}
use Rattle.send_queue.proofs.kept.Kept.take_trailers.Goals as goal

pub unreachable-requires : goal.unreachable-requires
unreachable-requires c = no_trailers c.self.inside.outbox (ap (λ (k : Kept). are_trailers (part_of 1 k.box)) c.self.view_is ∙ c.requires) c.in_default.ensures.none
