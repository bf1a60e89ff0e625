use Rattle.std.proofs.lemmas.Result.{IfOk-weaker}
use Rattle.driver.specs.Worlds.{ends}
use Rattle.driver.proofs.Serving.{serves_promised}
use Rattle.driver.proofs.service.Service.take_turn.Goals as goal

pub returns-in-None-clause-promised : goal.returns-in-None-clause-promised
returns-in-None-clause-promised g c = rw (← c.self.view_is)
    (λ _. IfOk-weaker c.take_turn-turn.result _ _
    (λ ended log setup before earlier goes. serves_promised setup (ends ended) _ c.take_turn-turn.new.gateway c.take_turn-turn.new.rooms.items earlier _ before (log setup before earlier goes))
    c.take_turn-turn.ensures.log)

pub returns-in-None-clause-front : goal.returns-in-None-clause-front
returns-in-None-clause-front g c = rw (← c.self.view_is) (λ _. c.take_turn-turn.ensures.front)

pub returns-in-None-clause-refused : goal.returns-in-None-clause-refused
returns-in-None-clause-refused g c = rw (← c.self.view_is) (λ _. c.take_turn-turn.ensures.refused)

pub returns-in-None-clause-memory : goal.returns-in-None-clause-memory
returns-in-None-clause-memory g c = rw (← c.self.view_is) (λ _. c.take_turn-turn.ensures.memory)

pub returns-in-None-clause-calls_are : goal.returns-in-None-clause-calls_are
returns-in-None-clause-calls_are g c = rw (← c.self.view_is) (λ _. c.take_turn-turn.ensures.calls_are)
