use Rattle.header_blocks.proofs.Bounded.{bounded_resized}
use Rattle.header_blocks.proofs.Wrote.{kept_none}
use Rattle.header_blocks.proofs.representations.write_maximum.Goals as goal

pub returns-in_ok-write-clause-empty : goal.returns-in_ok-write-clause-empty
returns-in_ok-write-clause-empty c = λ none. kept_none c.in-Some.maximum c.args.table.now c.set_max.new.self none c.set_max.ensures

pub returns-in_ok-write-clause-bounded : goal.returns-in_ok-write-clause-bounded
returns-in_ok-write-clause-bounded c = λ b. bounded_resized c.in-Some.maximum c.args.table.now c.set_max.new.self (c.requires c.in-Some.maximum c.in-Some.is) c.set_max.ensures
