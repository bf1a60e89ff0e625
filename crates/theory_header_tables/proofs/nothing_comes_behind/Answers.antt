use Rattle.theory_header_tables.proofs.Reading.{all_came}
use Rattle.theory_header_tables.proofs.nothing_comes_behind.Goals as goal

pub returns : goal.returns
returns c = all_came
