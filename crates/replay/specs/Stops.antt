-- Why a script isn't replayed.
use Rattle.std.specs.Prelude.{◌≡◌, ℕ, ◌+◌, List, length, map, ⊤}
use Rattle.std.specs.declared.vec.Vec.{Vec}
use Rattle.std.specs.declared.alloc.Global.{Global}
use Rattle.effects.specs.declared.events.Event.{Event}
use Rattle.effects.specs.declared.events.Output.{Output}
use Rattle.effects.specs.Views.{event_of}
use Rattle.replay.specs.declared.replays.ReplayFault.{ReplayFault}
use Rattle.replay.specs.declared.replays.ReplayFault.TheVariants.{NotALine, NotAdmitted, Memory}
use Rattle.gateway.specs.Promises.{Promise}
use Rattle.gateway.specs.Runs.{log_of, IsRefusedBehind}
use Rattle.model.specs.Setup.{Setup}
use Rattle.replay.specs.Scripts.{lines_of, AllSay, IsFirstFault}

-- The script was run, and these were put out: its lines say as many events, and the log of both has what is promised.
abbrev pub IsRunTo : Setup → List ℕ → List (Vec Output Global) → Type 0
IsRunTo setup script steps =
    (events : List Event) × AllSay (lines_of script) (map event_of events) × (length steps ≡ length events) × Promise setup (log_of events steps)

-- What is true of the script where its run stops, and these were put out: the event of the named line may not come behind just these.
abbrev pub ExplainsBehind : Setup → List ℕ → List (Vec Output Global) → ReplayFault → Type 0
ExplainsBehind setup script steps (NotALine place) = IsFirstFault (lines_of script) place
ExplainsBehind setup script steps (NotAdmitted place) =
    (before : ℕ) × (events : List Event) × AllSay (lines_of script) (map event_of events) × IsRefusedBehind setup events steps before × (place ≡ before + 1)
ExplainsBehind setup script steps Memory = ⊤

-- What is true of the script where its replay stops, of which nothing was written: so it is of what was put out before.
abbrev pub Explains : Setup → List ℕ → ReplayFault → Type 0
Explains setup script stop = (steps : List (Vec Output Global)) × ExplainsBehind setup script steps stop
