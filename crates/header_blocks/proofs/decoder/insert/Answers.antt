use Rattle.header_blocks.proofs.Bounded.{bounded_added}
use Rattle.header_blocks.proofs.decoder.insert.Goals as goal

pub returns-in_ok-add-clause-bounded : goal.returns-in_ok-add-clause-bounded
returns-in_ok-add-clause-bounded c = λ b. bounded_added _ c.args.table.now c.add.new.self c.in_ok-add.ensures.ok b
