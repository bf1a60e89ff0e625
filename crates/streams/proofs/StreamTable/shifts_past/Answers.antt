use Rattle.std.proofs.Common.{◌∙◌}
use Rattle.streams.proofs.Asked.{shifts_told}
use Rattle.streams.proofs.StreamTable.shifts_past.Goals as goal

pub returns : goal.returns
returns c =
    rw (← c.self.view_is) (c.shifts_past.ensures ∙ shifts_told c.self.inside.entries.items c.self.inside.records.slots c.args.first c.self.invariant)
