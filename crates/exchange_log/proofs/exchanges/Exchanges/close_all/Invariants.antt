use Rattle.std.proofs.Common.{◌≡◌, length}
use Rattle.exchange_log.specs.Exchanges.{all_given_up}
use Rattle.exchange_log.proofs.exchanges.Exchanges.close_all.Given as goal

-- those that are over so far, and what is left open, come to the same
abbrev pub invariant-loop-connection : goal.invariant-loop-connection
invariant-loop-connection l = all_given_up l.self.over.items l.self.connections.entries ≡ all_given_up l.initial.self.over.items l.initial.self.connections.entries

abbrev pub decreases-loop-connection : goal.decreases-loop-connection
decreases-loop-connection l = length l.self.connections.entries
