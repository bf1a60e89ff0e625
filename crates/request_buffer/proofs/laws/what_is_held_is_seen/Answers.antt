use Rattle.std.proofs.Common.{◌≤◌, subst}
use Rattle.h1_writer.specs.Sending.{held_back, most_line}
use Rattle.request_buffer.proofs.HeldInside.{parts_and_room}
use Rattle.request_buffer.proofs.laws.what_is_held_is_seen.Goals as goal

pub returns-clause-waiting : goal.returns-clause-waiting
returns-clause-waiting c = λ waiting laid.
    parts_and_room most_line waiting.head waiting.body (held_back waiting.sender) waiting.octets.items laid.before laid.gap (subst (λ n. waiting.body ≤ n) waiting.octets.ok.0 laid.within)
