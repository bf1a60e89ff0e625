-- The command line `h2replay [--config FILE] SCRIPT`, by `clap`'s meaning of a simple command.
use Rattle.std.specs.Prelude.{◌≡◌, List, [], Option, Some, None, option_map, string_bytes, codes, ⊤}
use Rattle.clap.specs.Words.{App, Text, with_rule, matches_of, first_of, fault_of, kind_of, IsAmong, first_value}
use Rattle.clap.specs.declared.parser.matches.Found.{Found}
use Rattle.command_line.specs.declared.words.Word.{Word}
use Rattle.command_line.specs.declared.words.Word.TheVariants as value
use Rattle.command_line.specs.declared.words.WordsFault.{WordsFault}
use Rattle.command_line.specs.declared.words.WordsFault.TheVariants.{Clap, Missing, MissingBoth, NotANumber, NotUtf8, Memory}
use Rattle.command_line.specs.declared.replays.ReplayWords.{ReplayWords}
use Rattle.command_line.specs.Values.{name_of, program_app, option_rule, value_rule}

-- the command, as `clap` reads it
abbrev pub replay_app : App
replay_app = with_rule (with_rule (program_app (codes "h2replay")) (option_rule value.Config)) (value_rule value.Script)

-- The values are those found under their names; the configuration may be left out.
pub record AreValues (find : Word → Option Text) (values : ReplayWords) : Type 0 where
  pub config : option_map string_bytes values.config ≡ find value.Config
  pub script : Some (string_bytes values.script) ≡ find value.Script

-- Why they are none, unless memory ran out: the script is missing.
abbrev pub AreNoValues : (Word → Option Text) → WordsFault → Type 0
AreNoValues find (Clap error) = ⊥
AreNoValues find (Missing word) = (word ≡ value.Script) × (find word ≡ None)
AreNoValues find MissingBoth = ⊥
AreNoValues find (NotANumber word) = ⊥
AreNoValues find NotUtf8 = ⊥
AreNoValues find Memory = ⊤

-- what `clap` found on a command line, by name
abbrev pub found_in : List Text → Word → Option Text
found_in words word = first_of (name_of word) (matches_of replay_app words)

-- what a parse found
abbrev pub found_by : Found → Word → Option Text
found_by found word = first_value found (name_of word)

abbrev pub HasValues : Found → ReplayWords → Type 0
HasValues found values = AreValues (found_by found) values

abbrev pub LacksValues : Found → WordsFault → Type 0
LacksValues found fault = AreNoValues (found_by found) fault

-- `clap` takes the words, and finds these values in them.
unfoldable pub Means : List Text → ReplayWords → Type 0
Means words values = (fault_of replay_app words ≡ []) × AreValues (found_in words) values

-- `clap` refuses the words so, or takes them and they lack the script, unless memory ran out.
unfoldable pub Refuses : List Text → WordsFault → Type 0
Refuses words (Clap error) = IsAmong (kind_of error) (fault_of replay_app words)
Refuses words (Missing word) = (fault_of replay_app words ≡ []) × AreNoValues (found_in words) (Missing word)
Refuses words MissingBoth = ⊥
Refuses words (NotANumber word) = ⊥
Refuses words NotUtf8 = ⊥
Refuses words Memory = ⊤
