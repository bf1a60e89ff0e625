use Rattle.h1_reader.proofs.ToldLaws.{seen, told_whole, told_ended, none_late}
use Rattle.h1_reader.proofs.laws.what_is_told.Goals as goal

pub returns : goal.returns
returns c = record { seen = seen; whole = told_whole; ended = told_ended; in_order = none_late }
