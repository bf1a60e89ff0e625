use Rattle.streams.proofs.HeldInside.{live_is, all}
use Rattle.streams.proofs.laws.what_is_held_is_seen.Goals as goal

pub returns-clause-live : goal.returns-clause-live
returns-clause-live c = live_is

pub returns-clause-streams : goal.returns-clause-streams
returns-clause-streams c = λ streams. all streams.entries.items streams.records.slots
