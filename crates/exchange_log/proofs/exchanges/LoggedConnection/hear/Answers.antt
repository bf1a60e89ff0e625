use Rattle.std.proofs.Common.{subst}
use Rattle.exchange_log.specs.Exchanges.{IsHeard}
use Rattle.exchange_log.proofs.Hearing.{goes_on}
use Rattle.exchange_log.proofs.exchanges.LoggedConnection.hear.Goals as goal

pub returns-in-None-clause-heard : goal.returns-in-None-clause-heard
returns-in-None-clause-heard c =
    goes_on c.args.self.now.route c.args.self.now.exchange c.in-Some.exchange c.hear.new.self c.args.octets.now c.in-Some.is
    (subst (λ end. IsHeard c.in-Some.exchange c.args.octets.now end c.hear.new.self) c.in-None.is c.in_ok-end.ensures)
