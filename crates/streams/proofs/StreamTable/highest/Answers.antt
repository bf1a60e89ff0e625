use Rattle.std.proofs.Common.{◌∙◌, ap, length, ◌-◌, List}
use Rattle.streams.specs.declared.entries.StreamEntry.{StreamEntry}
use Rattle.streams.specs.Records.{id_at}
use Rattle.streams.proofs.Asked.{highest_is_last}
use Rattle.streams.proofs.StreamTable.highest.Goals as goal

pub returns : goal.returns
returns c =
    rw (← c.self.view_is) (c.last_id.ensures ∙ ap (λ (es : List StreamEntry). id_at es (length es - 1)) c.deref.ensures.value ∙ highest_is_last c.self.inside.entries.items c.self.inside.records.slots c.self.invariant.kept)
