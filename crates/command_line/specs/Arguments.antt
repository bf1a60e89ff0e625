-- Why the words of a program can't be read.
use Rattle.std.specs.declared.io.ErrorKind.{ErrorKind}
use Rattle.std.specs.declared.io.ErrorKind.TheVariants.{OutOfMemory}
use Rattle.command_line.specs.declared.words.WordsFault.{WordsFault}
use Rattle.command_line.specs.declared.words.WordsFault.TheVariants.{NotUtf8, Memory}

-- Either there is no memory for them, or one isn't UTF-8.
abbrev pub fault_at : ErrorKind → WordsFault
fault_at OutOfMemory = Memory
fault_at _ = NotUtf8
