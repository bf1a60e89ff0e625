use Rattle.std.proofs.Common.{◌∙◌}
use Rattle.streams.proofs.Asked.{active_is}
use Rattle.streams.proofs.StreamTable.active.Goals as goal

pub returns-clause-is : goal.returns-clause-is
returns-clause-is c =
    rw (← c.self.view_is) (c.len.ensures ∙ active_is c.self.inside.entries.items c.self.inside.records.slots c.self.invariant)
