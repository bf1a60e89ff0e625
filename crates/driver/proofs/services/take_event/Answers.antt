use Rattle.std.proofs.Common.{◌≡◌, true, false, refl, ap, not, ◌∙◌, ◌++◌, sym}
use Rattle.driver.specs.Worlds.{came}
use Rattle.driver.proofs.Adding.{Steps, stands_on, serves_more, front_lacks, on_ok_at, named}
use Rattle.driver.proofs.Calling.{served_refused, served_unanswered, runs_on, served_front}
use Rattle.driver.proofs.services.take_event.Goals as goal

pub returns-then-not-admits-clause-refused : goal.returns-then-not-admits-clause-refused
returns-then-not-admits-clause-refused g c = λ peer e. (refl, sym c.whose.ensures ∙ named _ _ e, λ setup log run stands may. absurd (let no : true ≡ false = sym ((c.admits.ensures.log setup log run stands).1 may) ∙ c.if-not-admits.true in cc))

pub returns-in-Ok-clause-stands : goal.returns-in-Ok-clause-stands
returns-in-Ok-clause-stands g c =
    let steps : Steps c.args.gateway.now c.step.new.self c.args.event.now c.new-outputs.result.items c.step.new.out.items = record {
      none = c.new-outputs.ensures.items;
      puts = on_ok_at c.step.result (c.is_err.ensures.negation ∙ ap not c.if-is_err.false) c.step.ensures.stands;
    } in
    stands_on c.args.gateway.now c.step.new.self c.args.event.now c.new-outputs.result.items c.step.new.out.items steps c.args.rooms.now.items c.update_rooms.new.rooms.items
    (on_ok_at c.update_rooms.result (c.is_err-2.ensures.negation ∙ ap not c.if-is_err-2.false) (rw c.deref.ensures.value at c.update_rooms.ensures))

pub returns-in-Ok-clause-log : goal.returns-in-Ok-clause-log
returns-in-Ok-clause-log g c = λ setup before added run old is stands still rooms_are hands.
    let steps : Steps c.args.gateway.now c.step.new.self c.args.event.now c.new-outputs.result.items c.step.new.out.items = record {
      none = c.new-outputs.ensures.items;
      puts = on_ok_at c.step.result (c.is_err.ensures.negation ∙ ap not c.if-is_err.false) c.step.ensures.stands;
    } in
    serves_more setup c.args.gateway.now c.step.new.self before added run c.args.event.now c.new-outputs.result.items c.step.new.out.items _ c.closes_client.result c.update_rooms.new.rooms.items old _ _
    ((rw c.deref-2.ensures.value at c.in-Ok.ensures.log) (before ++ added) (came c.args.event.now) is) steps
    (rw c.deref-in-Ok.ensures.value at c.closes_client.ensures) still stands
    (λ next. on_ok_at c.update_rooms.result (c.is_err-2.ensures.negation ∙ ap not c.if-is_err-2.false) (rw c.deref.ensures.value at c.update_rooms.ensures) setup _ run next rooms_are) hands c.apply_all.ensures.handed

pub returns-clause-front : goal.returns-clause-front
returns-clause-front g c = λ e setup before added run is stands.
    let steps : Steps c.args.gateway.now c.step.new.self c.args.event.now c.new-outputs.result.items c.step.new.out.items = record {
      none = c.new-outputs.ensures.items;
      puts = on_ok_at c.step.result (c.is_err.ensures.negation ∙ ap not c.if-is_err.false) c.step.ensures.stands;
    } in
    let cut = (rw c.deref-2.ensures.value at c.in-Err.ensures.front) (before ++ added) (came c.args.event.now) is in
    front_lacks setup c.args.gateway.now c.step.new.self before added run c.args.event.now c.new-outputs.result.items c.step.new.out.items _ cut.0 cut.1 cut.2 cut.3 steps stands

pub returns-then-not-admits-clause-fails : goal.returns-then-not-admits-clause-fails
returns-then-not-admits-clause-fails g c = λ setup begun h.
    served_refused _ _ _ _ _ setup begun c.args.world.now c.args.gateway.now c.args.rooms.now.items c.args.event.now h c.whose.result (sym c.whose.ensures)
    (λ log run stands may. absurd (let no : true ≡ false = sym ((c.admits.ensures.log setup log run stands).1 may) ∙ c.if-not-admits.true in cc))

pub returns-then-is_err-clause-fails : goal.returns-then-is_err-clause-fails
returns-then-is_err-clause-fails g c = λ setup begun h. served_unanswered _ _ _ _ _ setup begun c.args.world.now c.args.gateway.now c.args.rooms.now.items c.args.event.now h

pub returns-then-is_err-2-clause-fails : goal.returns-then-is_err-2-clause-fails
returns-then-is_err-2-clause-fails g c = λ setup begun h. served_unanswered _ _ _ _ _ setup begun c.args.world.now c.args.gateway.now c.args.rooms.now.items c.args.event.now h

pub returns-in-Ok-clause-runs : goal.returns-in-Ok-clause-runs
returns-in-Ok-clause-runs g c = λ setup begun h.
    let steps : Steps c.args.gateway.now c.step.new.self c.args.event.now c.new-outputs.result.items c.step.new.out.items = record {
      none = c.new-outputs.ensures.items;
      puts = on_ok_at c.step.result (c.is_err.ensures.negation ∙ ap not c.if-is_err.false) c.step.ensures.stands;
    } in
    runs_on _ _ _ _ _ setup begun c.args.world.now c.args.gateway.now c.args.rooms.now.items c.args.event.now h c.step.new.self c.new-outputs.result.items c.step.new.out.items steps c.apply_all.new.world
    c.closes_client.result c.update_rooms.new.rooms.items (rw c.deref-in-Ok.ensures.value at c.closes_client.ensures)
    (λ next. on_ok_at c.update_rooms.result (c.is_err-2.ensures.negation ∙ ap not c.if-is_err-2.false) (rw c.deref.ensures.value at c.update_rooms.ensures) setup _ h.run next h.rooms_are)
    c.in-Ok.ensures.hears_on ((rw c.deref-2.ensures.value at c.in-Ok.ensures.applies) begun h.calls h.added (came c.args.event.now) h.along h.is)

pub returns-clause-fails : goal.returns-clause-fails
returns-clause-fails g c = λ setup begun h.
    let steps : Steps c.args.gateway.now c.step.new.self c.args.event.now c.new-outputs.result.items c.step.new.out.items = record {
      none = c.new-outputs.ensures.items;
      puts = on_ok_at c.step.result (c.is_err.ensures.negation ∙ ap not c.if-is_err.false) c.step.ensures.stands;
    } in
    let cut = (rw c.deref-2.ensures.value at c.in-Err.ensures.applies_front) begun h.calls h.added (came c.args.event.now) h.along h.is in
    served_front _ _ _ _ _ setup begun c.args.world.now c.args.gateway.now c.args.rooms.now.items c.args.event.now h c.step.new.self c.new-outputs.result.items c.step.new.out.items steps c.apply_all.new.world cut.0 cut.1 cut.2 cut.3
