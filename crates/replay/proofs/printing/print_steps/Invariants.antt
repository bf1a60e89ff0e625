use Rattle.std.proofs.Common.{◌≡◌, take, map, string_bytes}
use Rattle.gateway.specs.Views.{outputs_of}
use Rattle.replay.specs.Printing.{text_of}
use Rattle.replay.proofs.printing.print_steps.Given as goal

abbrev pub invariant-loop-step : goal.invariant-loop-step
invariant-loop-step l = string_bytes l.text ≡ text_of (map (λ step. outputs_of step.items) (take l.step-index l.steps))
