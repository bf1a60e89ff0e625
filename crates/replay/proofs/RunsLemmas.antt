-- The log of a run has its events and its outputs.
use Rattle.std.proofs.Common.{◌≡◌, ℕ, List, [], ◌∷◌, length, map, refl, ap, subst, sym, arith}
use Rattle.std.specs.Prelude.{Vec}
use Rattle.std.specs.declared.alloc.Global.{Global}
use Rattle.gateway.specs.Promises.{Promise}
use Rattle.effects.specs.declared.events.Event.{Event}
use Rattle.effects.specs.declared.events.Output.{Output}
use Rattle.gateway.specs.Views.{event_of, outputs_of}
use Rattle.gateway.specs.Runs.{log_of}
use Rattle.replay.specs.Scripts.{lines_of, AllSay}
use Rattle.model.specs.Setup.{Setup}
use Rattle.replay.specs.Printing.{text_of, IsRunBy}

events_of_log : (events : List Event) (outputs : List (Vec Output Global)) → length outputs ≡ length events → map (λ step. step.event) (log_of events outputs) ≡ map event_of events
events_of_log [] outputs each = refl
events_of_log (event ∷ events) [] each = absurd (omega arith)
events_of_log (event ∷ events) (o ∷ os) each = ap (λ xs. event_of event ∷ xs) (events_of_log events os (omega arith))

outputs_of_log : (events : List Event) (outputs : List (Vec Output Global)) → length outputs ≡ length events → map (λ step. step.outputs) (log_of events outputs) ≡ map (λ o. outputs_of o.items) outputs
outputs_of_log [] [] each = refl
outputs_of_log [] (o ∷ os) each = absurd (omega arith)
outputs_of_log (event ∷ events) [] each = absurd (omega arith)
outputs_of_log (event ∷ events) (o ∷ os) each = ap (λ xs. outputs_of o.items ∷ xs) (outputs_of_log events os (omega arith))

-- a script that was read and run is one that was run
pub is_run : (setup : Setup) (script written : List ℕ) (events : List Event) (outputs : List (Vec Output Global)) → AllSay (lines_of script) (map event_of events)
    → length outputs ≡ length events → Promise setup (log_of events outputs) → written ≡ text_of (map (λ o. outputs_of o.items) outputs)
    → IsRunBy setup script (λ text. written ≡ text)
is_run setup script written events outputs say each promised printed = (
  log_of events outputs,
  subst (AllSay (lines_of script)) (sym (events_of_log events outputs each)) say,
  promised,
  subst (λ xs. written ≡ text_of xs) (sym (outputs_of_log events outputs each)) printed,
)
