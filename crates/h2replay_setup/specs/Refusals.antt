-- Why there is nothing to replay.
use Rattle.std.specs.Prelude.{◌≡◌, ℕ, Bool, true, List, ⊤}
use Rattle.toml.specs.Parse.{parse_document}
use Rattle.configuration.specs.Configs.{ConfiguresNothing}
use Rattle.command_line.specs.declared.words.Word.TheVariants as value
use Rattle.command_line.specs.declared.words.WordsFault.{WordsFault}
use Rattle.command_line.specs.declared.words.WordsFault.TheVariants.{Missing, MissingBoth, NotANumber}
use Rattle.command_line.specs.Replays.{Refuses}
use Rattle.h2replay_setup.specs.declared.stops.Stop.{Stop}
use Rattle.h2replay_setup.specs.declared.stops.Stop.TheVariants.{Words, NoConfig, Config, NoScript, Memory}

-- Why arguments are no command line of the replay, unless memory ran out.
abbrev pub LacksWords : List (List ℕ) → Stop → Type 0
LacksWords arguments (Words fault) = Refuses arguments fault
LacksWords arguments Memory = ⊤
LacksWords arguments stop = ⊥

-- Why a text isn't taken: it is no configuration, by this fault.
abbrev pub LacksConfig : List ℕ → Stop → Type 0
LacksConfig text (Config fault) = ConfiguresNothing (parse_document text) fault
LacksConfig text stop = ⊥

-- Why the configuration isn't taken. Which text its file has isn't told.
abbrev pub IsConfigStop : Stop → Type 0
IsConfigStop (NoConfig reason) = ⊤
IsConfigStop (Config fault) = ⊤
IsConfigStop Memory = ⊤
IsConfigStop stop = ⊥

-- Why the files aren't taken. A configuration stops nothing where none is named. Which texts files have isn't told.
abbrev pub LacksFiles : Bool → Stop → Type 0
LacksFiles is_named (NoConfig reason) = is_named ≡ true
LacksFiles is_named (Config fault) = is_named ≡ true
LacksFiles is_named (NoScript reason) = ⊤
LacksFiles is_named Memory = ⊤
LacksFiles is_named stop = ⊥

-- What can be wrong with a command line of the replay: only its script can be missing, and nothing in it has to be a number. Which arguments the program
-- has isn't told.
abbrev pub IsReplayFault : WordsFault → Type 0
IsReplayFault (Missing word) = word ≡ value.Script
IsReplayFault MissingBoth = ⊥
IsReplayFault (NotANumber word) = ⊥
IsReplayFault fault = ⊤

-- Why the command line isn't taken.
abbrev pub IsWordsStop : Stop → Type 0
IsWordsStop (Words fault) = IsReplayFault fault
IsWordsStop Memory = ⊤
IsWordsStop stop = ⊥

-- Why there is nothing to replay: for the command line, or for the files.
abbrev pub IsSettingStop : Stop → Type 0
IsSettingStop (Words fault) = IsReplayFault fault
IsSettingStop stop = ⊤
