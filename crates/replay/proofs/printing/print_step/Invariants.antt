use Rattle.std.proofs.Common.{◌≡◌, ◌++◌, take, string_bytes}
use Rattle.gateway.specs.Views.{outputs_of}
use Rattle.replay.specs.Printing.{lines_of_step}
use Rattle.replay.proofs.printing.print_step.Given as goal

abbrev pub invariant-loop-output : goal.invariant-loop-output
invariant-loop-output l =
    string_bytes l.text ≡ string_bytes l.initial.text ++ lines_of_step (outputs_of (take l.output-index l.outputs))
