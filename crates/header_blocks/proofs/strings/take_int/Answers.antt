use Rattle.header_blocks.proofs.Refused.{bad}
use Rattle.header_blocks.proofs.strings.take_int.Goals as goal

pub returns-in-Bad-clause-none : goal.returns-in-Bad-clause-none
returns-in-Bad-clause-none c = bad c.args.prefix c.args.octets.now c.in-Bad.ensures
