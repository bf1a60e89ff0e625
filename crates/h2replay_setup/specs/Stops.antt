-- The exit status of the program, by why it stops.
use Rattle.std.specs.Prelude.{ℕ}
use Rattle.clap.specs.Words.{kind_of}
use Rattle.clap.specs.declared.error.kind.ErrorKind.{ErrorKind}
use Rattle.clap.specs.declared.error.kind.ErrorKind.TheVariants.{DisplayHelp, DisplayVersion}
use Rattle.command_line.specs.declared.words.WordsFault.TheVariants as words
use Rattle.configuration.specs.declared.faults.ConfigFault.TheVariants as fault
use Rattle.h2replay_setup.specs.declared.stops.Stop.{Stop}
use Rattle.h2replay_setup.specs.declared.stops.Stop.TheVariants.{Words, NoConfig, Config, NoScript, Memory}

-- a command line that only asks for help, or for the version, is answered
abbrev pub status_of_kind : ErrorKind → ℕ
status_of_kind DisplayHelp = 0
status_of_kind DisplayVersion = 0
status_of_kind _ = 1

abbrev pub status_of : Stop → ℕ
status_of (Words (words.Clap error)) = status_of_kind (kind_of error)
status_of (Words (words.Missing word)) = 1
status_of (Words words.MissingBoth) = 1
status_of (Words (words.NotANumber word)) = 1
status_of (Words words.NotUtf8) = 1
status_of (Words words.Memory) = 2
status_of (NoConfig reason) = 1
status_of (Config fault.NotToml) = 1
status_of (Config (fault.Bad key)) = 1
status_of (Config fault.UnknownKey) = 1
status_of (Config fault.Memory) = 2
status_of (NoScript reason) = 1
status_of Memory = 2
