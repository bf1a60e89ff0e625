use Rattle.one_exchange.proofs.Alone.{stands}
use Rattle.one_exchange.proofs.Courses.{errors_hold}
use Rattle.one_exchange.proofs.errors_once.Goals as goal

pub returns : goal.returns
returns c known t n = errors_hold known t (stands known t n)
