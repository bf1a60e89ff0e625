use Rattle.std.proofs.Common.{◌≤◌, ◌-◌, length, drop, Some}
use Rattle.event_handlers.specs.Resting.{IsSettled, IsServed}
use Rattle.gateway.specs.Reading.{Taking}
use Rattle.gateway.proofs.reading.take_frames.Given as goal

abbrev pub invariant-loop-used : goal.invariant-loop-used
invariant-loop-used l = record {
  within : l.used ≤ length l.text;
  taking : Taking (λ setup. IsServed setup l.fn.service) l.fn.session l.fn.out l.text (drop l.used l.text) (Some l.session) l.out;
  settled : IsSettled l.session;
}

abbrev pub decreases-loop-used : goal.decreases-loop-used
decreases-loop-used l = length l.text - l.used
