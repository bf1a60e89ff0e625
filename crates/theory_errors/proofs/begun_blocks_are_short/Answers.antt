use Rattle.std.proofs.Common.{ap}
use Rattle.theory_errors.specs.Held.{octets_begun}
use Rattle.theory_errors.proofs.Short as laws
use Rattle.theory_errors.proofs.begun_blocks_are_short.Goals as goal

pub returns-clause-client : goal.returns-clause-client
returns-clause-client c = laws.begun_is_short

pub returns-clause-own : goal.returns-clause-own
returns-clause-own c = λ ledger rests. ap octets_begun rests.none_begun
