-- What a sender waits for, without how it lies in memory.
use Rattle.h1_writer.specs.Sending.{Stage}
use Rattle.h1_writer.specs.Sending.Stage.{Whole, Counting, Holding, Chunking}
use Rattle.h1_writer.specs.declared.sender.Waiting.{Waiting}
use Rattle.h1_writer.specs.declared.sender.Waiting.TheVariants.{Nothing, Octets, End, Chunks}

abbrev pub stage_of : Waiting → Stage
stage_of Nothing = Whole
stage_of (Octets left) = Counting left
stage_of (End octet) = Holding octet
stage_of Chunks = Chunking
