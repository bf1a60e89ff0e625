-- What a replay prints.
use Rattle.std.specs.Prelude.{◌≡◌, ◌≢◌, ◌⊎◌, ℕ, ◌+◌, false, List, [], ◌∷◌, ◌++◌, map, Option, Some, None, codes, decimal}
use Rattle.std.specs.List.{flat_map}
use Rattle.hex.specs.Hex.{encode_lower}
use Rattle.std.specs.declared.vec.Vec.{Vec}
use Rattle.std.specs.declared.alloc.Global.{Global}
use Rattle.model.specs.Logs.{Output, Step}
use Rattle.model.specs.Logs.Output.{ToClient, Does}
use Rattle.model.specs.Logs.Act.{Open, ToUp, Close, CloseClient}
use Rattle.model.specs.Setup.{Setup}
use Rattle.model.specs.Setup.Policy.{Plain}
use Rattle.model.specs.Setup.Passing.{Whole}
use Rattle.effects.specs.declared.events.Event.{Event as Came}
use Rattle.effects.specs.declared.events.Output.{Output as Given}
use Rattle.effects.specs.Views.{event_of}
use Rattle.toml.specs.Parse.{parse_document}
use Rattle.gateway.specs.declared.config.Config.{Config}
use Rattle.gateway.specs.Setups.{setup_of}
use Rattle.gateway.specs.Promises.{Promise}
use Rattle.gateway.specs.Runs.{IsRefusedBehind}
use Rattle.configuration.specs.declared.faults.ConfigFault.{ConfigFault}
use Rattle.configuration.specs.declared.faults.ConfigFault.TheVariants.{Memory}
use Rattle.configuration.specs.Configs.{Configures, ConfiguresNothing}
use Rattle.configuration.specs.Lines.{line_of as line_of_fault}
use Rattle.replay.specs.Scripts.{lines_of, AllSay, IsFirstFault}

-- An output as a line: octets stand in lower-case hex, two digits each.
abbrev pub line_of : Output → List ℕ
line_of (ToClient octets) = codes "C " ++ encode_lower octets ++ codes "\n"
line_of (Does (Open k route)) = codes "O " ++ decimal k ++ codes " " ++ decimal route ++ codes "\n"
line_of (Does (ToUp k octets)) = codes "U " ++ decimal k ++ codes " " ++ encode_lower octets ++ codes "\n"
line_of (Does (Close k)) = codes "X " ++ decimal k ++ codes "\n"
line_of (Does CloseClient) = codes "XC\n"

-- the outputs of one step, one line each
abbrev pub lines_of_step : List Output → List ℕ
lines_of_step outputs = flat_map line_of outputs

-- the outputs of all steps, in order
abbrev pub text_of : List (List Output) → List ℕ
text_of outputs = flat_map lines_of_step outputs

-- What a script is run with where no configuration is given: one route, for any authority and each path that begins with `/`.
abbrev pub default_setup : Setup
default_setup = record {
  routes = record { authority = []; path = codes "/" } ∷ [];
  policy = Plain;
  passing = Whole;
  max_body = 1048576;
  max_response = 1048576;
  keep = false;
  most_idle = 8;
  more_room = 0;
}

-- The setup of a run: that of the configuration that a text says, and the default where no text is given.
abbrev pub IsSetup : Option (List ℕ) → Setup → Type 0
IsSetup None setup = setup ≡ default_setup
IsSetup (Some text) setup = (config : Config) × Configures (parse_document text) config × (setup ≡ setup_of config)

-- Why there is no setup, unless memory ran out: the text says no configuration.
abbrev pub IsNoSetup : Option (List ℕ) → ConfigFault → Type 0
IsNoSetup None fault = fault ≡ Memory
IsNoSetup (Some text) fault = ConfiguresNothing (parse_document text) fault

-- The script was run: its lines say the events of a log that has what is promised, of which the outputs were written, one line each.
abbrev pub IsRunBy : Setup → List ℕ → (List ℕ → Type 0) → Type 0
IsRunBy setup script IsWritten =
    (log : List Step) × AllSay (lines_of script) (map (λ step. step.event) log) × Promise setup log
    × IsWritten (text_of (map (λ step. step.outputs) log))

-- It was run with what the text of a configuration says.
abbrev pub IsRun : Option (List ℕ) → List ℕ → (List ℕ → Type 0) → Type 0
IsRun config script IsWritten = (setup : Setup) × IsSetup config setup × IsRunBy setup script IsWritten

-- what is said of a line, by its place from 1
abbrev pub message : ℕ → List ℕ → List ℕ
message place what = codes "line " ++ decimal place ++ codes ": " ++ what ++ codes "\n"

-- The first line that says nothing was named.
abbrev pub IsNoScript : List ℕ → (List ℕ → Type 0) → Type 0
IsNoScript script IsWritten = (place : ℕ) × IsFirstFault (lines_of script) place × IsWritten (message place (codes "not a line"))

-- All lines say something, and the first was named whose event may not come behind what was put out at those before it.
abbrev pub IsNotAdmitted : Setup → List ℕ → (List ℕ → Type 0) → Type 0
IsNotAdmitted setup script IsWritten =
    (steps : List (Vec Given Global)) × (before : ℕ) × (events : List Came) × AllSay (lines_of script) (map event_of events)
    × IsRefusedBehind setup events steps before × IsWritten (message (before + 1) (codes "not admitted"))

-- The script was refused for one of the two reasons.
abbrev pub IsRefusedBy : Setup → List ℕ → (List ℕ → Type 0) → Type 0
IsRefusedBy setup script IsWritten = IsNoScript script IsWritten ⊎ IsNotAdmitted setup script IsWritten

-- The configuration is none, and that was said of it.
abbrev pub IsNoConfig : Option (List ℕ) → (List ℕ → Type 0) → Type 0
IsNoConfig config IsWritten = (fault : ConfigFault) × IsNoSetup config fault × (fault ≢ Memory) × IsWritten (line_of_fault fault ++ codes "\n")

-- The configuration was refused, or there is one and the script was refused.
abbrev pub IsRefused : Option (List ℕ) → List ℕ → (List ℕ → Type 0) → Type 0
IsRefused config script IsWritten = IsNoConfig config IsWritten ⊎ (setup : Setup) × IsSetup config setup × IsRefusedBy setup script IsWritten
