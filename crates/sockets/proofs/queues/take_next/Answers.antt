use Rattle.std.proofs.Common.{◌<◌}
use Rattle.sockets.proofs.Idling.{removed_some, removed_other, front_none}
use Rattle.sockets.proofs.queues.take_next.Goals as goal

pub returns-in-Some-clause-stand : goal.returns-in-Some-clause-stand
returns-in-Some-clause-stand c = removed_some c.remove.result c.args.ready.now.items _ c.in-Some.place c.in-Some.ensures.some.0 c.remove.ensures.value c.remove.ensures.items

pub returns-in-Some-clause-first : goal.returns-in-Some-clause-first
returns-in-Some-clause-first c = λ is. absurd (removed_other c.remove.result c.args.ready.now.items c.in-Some.place c.in-Some.ensures.some.0 c.in-Some.ensures.some.1 c.remove.ensures.value is)

pub returns-in-None-clause-first : goal.returns-in-None-clause-first
returns-in-None-clause-first c = λ is. front_none c.pop_front-in-None.result c.args.ready.now.items c.pop_front-in-None.new.self.items c.args.idle.now c.pop_front-in-None.ensures.items c.in-None.ensures.none
