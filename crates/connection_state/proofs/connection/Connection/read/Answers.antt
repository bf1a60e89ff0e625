use Rattle.std.proofs.Common.{sym, ◌∙◌}
use Rattle.connection_state.proofs.Kept.{undecodable}
use Rattle.connection_state.proofs.connection.Connection.read.Goals as goal

pub returns-else-is_of_memory-clause-unread : goal.returns-else-is_of_memory-clause-unread
returns-else-is_of_memory-clause-unread c = rw (← c.self.view_is) (undecodable c.self.inside.decoder.table c.args.octets.now c.in-Err.fault (sym c.is_of_memory.ensures ∙ c.if-is_of_memory.false) c.in-Err.ensures.unread)
