-- Why there is nothing to replay: what is said of any arguments, from what is said of these.
use Rattle.std.proofs.Common.{ℕ, List}
use Rattle.command_line.specs.declared.words.WordsFault.{WordsFault}
use Rattle.command_line.specs.declared.words.WordsFault.TheVariants as words
use Rattle.command_line.specs.Replays.{Refuses}
use Rattle.h2replay_setup.specs.Refusals.{LacksWords, IsReplayFault, IsWordsStop}
use Rattle.h2replay_setup.specs.declared.stops.Stop.{Stop}
use Rattle.h2replay_setup.specs.declared.stops.Stop.TheVariants.{Words, NoConfig, Config, NoScript, Memory}

refused : (arguments : List (List ℕ)) (fault : WordsFault) → Refuses arguments fault → IsReplayFault fault
unfolding Refuses
refused arguments (words.Clap error) refuses = tt
refused arguments (words.Missing word) refuses = refuses.1.0
refused arguments words.MissingBoth refuses = absurd refuses
refused arguments (words.NotANumber word) refuses = absurd refuses
refused arguments words.NotUtf8 refuses = tt
refused arguments words.Memory refuses = tt

-- The arguments are no command line.
pub words_stop : (arguments : List (List ℕ)) (stop : Stop) → LacksWords arguments stop → IsWordsStop stop
words_stop arguments (Words fault) lacks = refused arguments fault lacks
words_stop arguments (NoConfig reason) lacks = absurd lacks
words_stop arguments (Config fault) lacks = absurd lacks
words_stop arguments (NoScript reason) lacks = absurd lacks
words_stop arguments Memory lacks = tt
