use Rattle.std.proofs.Common.{◌++◌, ◌∙◌, reverse}
use Rattle.driver.proofs.Adding.{front_whole, may_not_come, same_fault, unanswered, serves_same, hands_one, hands_still, hands_step}
use Rattle.driver.proofs.Fitting.{of_none}
use Rattle.driver.specs.declared.services.Peer.TheVariants.{Upstream}
use Rattle.driver.proofs.Calling.{runs_nothing, runs_over, served_failed, has_come}
use Rattle.driver.proofs.services.take_turn.Goals as goal

pub returns-in-Err-clause-front : goal.returns-in-Err-clause-front
returns-in-Err-clause-front g c = λ e setup before old s. front_whole setup _ _ _ c.args.gateway.now c.args.rooms.now.items old _ before c.in-Err.ensures.err.0 s

pub returns-in-Err-clause-hands : goal.returns-in-Err-clause-hands
returns-in-Err-clause-hands g c = λ setup before old s. hands_still setup _ _ _ c.args.gateway.now c.args.rooms.now.items old _ _ before c.in-Err.ensures.err.0 c.in-Err.ensures.err.1 s

pub returns-in-Ok-Nothing-clause-log : goal.returns-in-Ok-Nothing-clause-log
returns-in-Ok-Nothing-clause-log g c = λ setup before old s.
    serves_same setup _ _ c.args.gateway.now c.args.rooms.now.items c.idle.result.now old _ _ before (rw c.in-Ok-Nothing.field-0-is at c.in-Ok-Nothing.ensures.log) (rw c.deref.ensures.value at c.in-Ok-Nothing.ensures.handed) c.idle.ensures s

pub returns-in-Ok-Nothing-clause-over : goal.returns-in-Ok-Nothing-clause-over
returns-in-Ok-Nothing-clause-over g c = rw c.in-Ok-Nothing.field-0-is at c.in-Ok-Nothing.ensures.over

pub returns-in-Ok-Over-clause-log : goal.returns-in-Ok-Over-clause-log
returns-in-Ok-Over-clause-log g c = λ setup before old s.
    serves_same setup _ _ c.args.gateway.now c.args.rooms.now.items c.idle.result.now old _ _ before (rw c.in-Ok-Over.field-0-is at c.in-Ok-Over.ensures.log) (rw c.deref.ensures.value at c.in-Ok-Over.ensures.handed) c.idle.ensures s

pub returns-in-Ok-true-clause-log : goal.returns-in-Ok-true-clause-log
returns-in-Ok-true-clause-log g c = λ setup before old s.
    let came_in = (rw c.in-Ok-Happened.field-0-is at c.in-Ok-Happened.ensures.log) (before ++ s.added) s.is in
    let hands = hands_one setup _ c.args.gateway.now c.args.rooms.now.items c.idle.result.now old _ _ before (rw c.deref.ensures.value at c.in-Ok-Happened.ensures.handed) c.idle.ensures s in
    (rw c.in-Ok-true.field-0-test at c.in-Ok-true.ensures.log) setup before s.added s.run old came_in s.stands s.has_closed_is s.rooms_are hands

pub returns-in-Ok-false-clause-log : goal.returns-in-Ok-false-clause-log
returns-in-Ok-false-clause-log g c = λ setup before old s.
    let came_in = (rw c.in-Ok-Happened.field-0-is at c.in-Ok-Happened.ensures.log) (before ++ s.added) s.is in
    let hands = hands_one setup _ c.args.gateway.now c.args.rooms.now.items c.idle.result.now old _ _ before (rw c.deref.ensures.value at c.in-Ok-Happened.ensures.handed) c.idle.ensures s in
    (rw c.in-Ok-false.field-0-test at c.in-Ok-false.ensures.log) setup before s.added s.run old came_in s.stands s.has_closed_is s.rooms_are hands

pub returns-clause-front : goal.returns-clause-front
returns-clause-front g c = λ e setup before old s.
    let came_in = (rw c.in-Ok-Happened.field-0-is at c.in-Ok-Happened.ensures.log) (before ++ s.added) s.is in
    c.in-Err-take_event.ensures.front (same_fault _ _ e) setup before s.added s.run came_in s.stands

pub returns-clause-refused : goal.returns-clause-refused
returns-clause-refused g c = λ peer e setup before old s.
    let came_in = (rw c.in-Ok-Happened.field-0-is at c.in-Ok-Happened.ensures.log) (before ++ s.added) s.is in
    let refused = c.in-Err-take_event.ensures.refused peer (same_fault _ _ e) in (
      s.added,
      c.in-Ok-Happened.event,
      refused.0 ∙ came_in,
      may_not_come setup _ _ c.args.gateway.now c.args.rooms.now.items old _ before c.in-Ok-Happened.event s (refused.2 setup (reverse s.added) s.run s.stands),
      refused.1,
    )

pub returns-clause-upstreams : goal.returns-clause-upstreams
returns-clause-upstreams g c = λ keeps k e.
    let stands = c.requires.stands.1 in
    let refused = c.in-Err-take_event.ensures.refused (Upstream k) (same_fault _ _ e) in
    of_none c.requires.stands.0 c.args.gateway.now stands.log stands.run stands.stands c.args.rooms.now.items stands.rooms_are c.in-Ok-Happened.event
    ((rw c.in-Ok-Happened.field-0-is at (rw c.deref.ensures.value at c.in-Ok-Happened.ensures.rooms)) keeps) (refused.2 c.requires.stands.0 stands.log stands.run stands.stands) k refused.1

pub returns-clause-hands : goal.returns-clause-hands
returns-clause-hands g c = λ setup before old s.
    let came_in = (rw c.in-Ok-Happened.field-0-is at c.in-Ok-Happened.ensures.log) (before ++ s.added) s.is in
    let hands = hands_one setup _ c.args.gateway.now c.args.rooms.now.items c.idle.result.now old _ _ before (rw c.deref.ensures.value at c.in-Ok-Happened.ensures.handed) c.idle.ensures s in
    let adds = c.in-Err-take_event.ensures.adds (before ++ s.added) came_in in
    hands_step setup before s.added _ old _ _ _ adds.1 c.take_event.ensures.handed hands

pub returns-clause-memory : goal.returns-clause-memory
returns-clause-memory g c = λ e.
    let left = c.in-Err-take_event.ensures.memory (same_fault _ _ e) in (
      left.1 ∙ c.in-Ok-Happened.ensures.failures,
      λ setup before old s. unanswered setup _ _ _ _ c.args.gateway.now c.args.rooms.now.items old _ before _ left.0 s ((rw c.in-Ok-Happened.field-0-is at c.in-Ok-Happened.ensures.log) (before ++ s.added) s.is),
    )

pub returns-in-Err-clause-calls_are : goal.returns-in-Err-clause-calls_are
returns-in-Err-clause-calls_are g c = λ setup begun r.
    served_failed _ _ _ _ _ setup begun c.args.world.now c.next.new.self c.args.gateway.now c.args.rooms.now.items c.idle.result.now c.idle.ensures r _
    (record { moved = rw c.deref.ensures.value at c.in-Err.ensures.moves; idle_first = λ h. tt })

pub returns-in-Ok-Nothing-clause-calls_are : goal.returns-in-Ok-Nothing-clause-calls_are
returns-in-Ok-Nothing-clause-calls_are g c = λ setup begun r.
    runs_nothing _ _ _ _ _ setup begun c.args.world.now c.next.new.self c.args.gateway.now c.args.rooms.now.items c.idle.result.now c.idle.ensures r
    (record { moved = rw c.in-Ok-Nothing.field-0-is at (rw c.deref.ensures.value at c.in-Ok-Nothing.ensures.moves); idle_first = λ h. (rw c.in-Ok-Nothing.field-0-is at c.in-Ok-Nothing.ensures.idle_first) (r.hears_on h) }) c.in-Ok-Nothing.ensures.hears_on

pub returns-in-Ok-Over-clause-calls_are : goal.returns-in-Ok-Over-clause-calls_are
returns-in-Ok-Over-clause-calls_are g c = λ setup begun r.
    runs_over _ _ _ _ _ setup begun c.args.world.now c.next.new.self c.args.gateway.now c.args.rooms.now.items c.idle.result.now c.idle.ensures r
    (record { moved = rw c.in-Ok-Over.field-0-is at (rw c.deref.ensures.value at c.in-Ok-Over.ensures.moves); idle_first = λ h. (rw c.in-Ok-Over.field-0-is at c.in-Ok-Over.ensures.idle_first) (r.hears_on h) }) c.in-Ok-Over.ensures.hears_on

pub returns-in-Ok-true-clause-calls_are : goal.returns-in-Ok-true-clause-calls_are
returns-in-Ok-true-clause-calls_are g c = λ setup begun r.
    let came_in = has_come _ _ _ _ _ setup begun c.args.world.now c.next.new.self c.args.gateway.now c.args.rooms.now.items c.idle.result.now c.idle.ensures r c.in-Ok-Happened.event
    (record { moved = rw c.in-Ok-Happened.field-0-is at (rw c.deref.ensures.value at c.in-Ok-Happened.ensures.moves); idle_first = λ h. (rw c.in-Ok-Happened.field-0-is at c.in-Ok-Happened.ensures.idle_first) (r.hears_on h) }) c.in-Ok-Happened.ensures.hears_on in
    (rw c.in-Ok-true.field-0-test at c.in-Ok-true.ensures.runs) setup begun came_in

pub returns-in-Ok-false-clause-calls_are : goal.returns-in-Ok-false-clause-calls_are
returns-in-Ok-false-clause-calls_are g c = λ setup begun r.
    let came_in = has_come _ _ _ _ _ setup begun c.args.world.now c.next.new.self c.args.gateway.now c.args.rooms.now.items c.idle.result.now c.idle.ensures r c.in-Ok-Happened.event
    (record { moved = rw c.in-Ok-Happened.field-0-is at (rw c.deref.ensures.value at c.in-Ok-Happened.ensures.moves); idle_first = λ h. (rw c.in-Ok-Happened.field-0-is at c.in-Ok-Happened.ensures.idle_first) (r.hears_on h) }) c.in-Ok-Happened.ensures.hears_on in
    (rw c.in-Ok-false.field-0-test at c.in-Ok-false.ensures.runs) setup begun came_in

pub returns-clause-calls_are : goal.returns-clause-calls_are
returns-clause-calls_are g c = λ setup begun r.
    let came_in = has_come _ _ _ _ _ setup begun c.args.world.now c.next.new.self c.args.gateway.now c.args.rooms.now.items c.idle.result.now c.idle.ensures r c.in-Ok-Happened.event
    (record { moved = rw c.in-Ok-Happened.field-0-is at (rw c.deref.ensures.value at c.in-Ok-Happened.ensures.moves); idle_first = λ h. (rw c.in-Ok-Happened.field-0-is at c.in-Ok-Happened.ensures.idle_first) (r.hears_on h) }) c.in-Ok-Happened.ensures.hears_on in
    c.in-Err-take_event.ensures.fails setup begun came_in
