use Rattle.one_exchange.proofs.Alone.{stands, heard_is, ended_is}
use Rattle.one_exchange.proofs.all_is_heard.Goals as goal

pub returns-clause-octets : goal.returns-clause-octets
returns-clause-octets c known t o n i = heard_is known t (stands known t n) o i

pub returns-clause-ended : goal.returns-clause-ended
returns-clause-ended c known t o n i = ended_is known t (stands known t n) o i
