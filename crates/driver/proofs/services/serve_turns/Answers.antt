use Rattle.std.proofs.Common.{Ok, refl, ap, ◌∙◌, arith, inr}
use Rattle.driver.specs.Services.{outcome_of}
use Rattle.driver.specs.declared.services.ServiceEnd.TheVariants.{Turns}
use Rattle.driver.proofs.Adding.{serves_none, serves_run, same_fault, no_fault, hands_of}
use Rattle.driver.proofs.Calling.{runs_none, served_ended}
use Rattle.driver.proofs.services.serve_turns.Goals as goal

pub loop-turn-init : goal.loop-turn-init
loop-turn-init g c = record {
  calls = omega arith;
  failures = refl;
  keeps_rooms = refl;
  going = c.requires.begins;
  runs = λ setup at. runs_none _ _ _ _ _ setup c.args.world.now c.args.service.now.gateway c.args.service.now.rooms at.no_rooms at.stands;
  log = λ setup at before e. serves_none setup _ c.args.service.now.gateway c.args.service.now.rooms _ before e at.no_rooms at.stands;
}

pub take_turn-requires-clause-calls : goal.take_turn-requires-clause-calls
take_turn-requires-clause-calls g c = (let calls = c.loop-turn.invariant.calls in let end = c.loop-turn.auto._turn-end in let more = c.loop-turn-test.true in let turns = c.requires.turns in omega (arith, calls, end, more, turns))

pub loop-turn-preserved : goal.loop-turn-preserved
loop-turn-preserved g c = record {
  calls = (let a = c.in-Ok-None.ensures.calls c.loop-turn.invariant.going in let i = c.loop-turn.invariant.calls in omega (arith, a, i));
  failures = c.in-Ok-None.ensures.failures ∙ c.loop-turn.invariant.failures;
  keeps_rooms = c.in-Ok-None.ensures.keeps_rooms ∙ c.loop-turn.invariant.keeps_rooms;
  going = c.in-Ok-None.ensures.outcome ∙ ap (λ o. outcome_of (Ok o)) c.in-Ok-None.field-0-is;
  runs = λ setup at. (rw c.in-Ok-None.field-0-is at c.in-Ok-None.ensures.calls_are) c.loop-turn.invariant.going setup _ (c.loop-turn.invariant.runs setup at);
  log = λ setup at before e. (rw c.in-Ok-None.field-0-is at c.in-Ok-None.ensures.log) c.loop-turn.invariant.going setup before _ (c.loop-turn.invariant.log setup at before e);
}

pub returns-in-Ok-Some-clause-run : goal.returns-in-Ok-Some-clause-run
returns-in-Ok-Some-clause-run g c = λ setup at before e.
    serves_run _ _ c.in-Ok-Some.ended _ c.take_turn.new.self.gateway c.take_turn.new.self.rooms _ _ before
    ((rw c.in-Ok-Some.field-0-is at c.in-Ok-Some.ensures.log) c.loop-turn.invariant.going setup before _ (c.loop-turn.invariant.log setup at before e)) refl

pub returns-in-Ok-Some-clause-calls : goal.returns-in-Ok-Some-clause-calls
returns-in-Ok-Some-clause-calls g c = (let calls = c.loop-turn.invariant.calls in let end = c.loop-turn.auto._turn-end in let more = c.loop-turn-test.true in let took = c.in-Ok-Some.ensures.calls c.loop-turn.invariant.going in omega (arith, calls, end, more, took))

pub returns-in-Ok-Some-clause-hands : goal.returns-in-Ok-Some-clause-hands
returns-in-Ok-Some-clause-hands g c = λ setup at before e.
    hands_of _ _ _ c.take_turn.new.self.gateway c.take_turn.new.self.rooms _ _ before
    ((rw c.in-Ok-Some.field-0-is at c.in-Ok-Some.ensures.log) c.loop-turn.invariant.going setup before _ (c.loop-turn.invariant.log setup at before e))

pub returns-in-Err-clause-world : goal.returns-in-Err-clause-world
returns-in-Err-clause-world g c = λ e. (let failed = c.in-Err.ensures.world c.loop-turn.invariant.going (same_fault _ _ e) in let before = c.loop-turn.invariant.failures in omega (arith, failed, before))

pub returns-in-Err-clause-front : goal.returns-in-Err-clause-front
returns-in-Err-clause-front g c = λ e setup at before h. c.in-Err.ensures.front c.loop-turn.invariant.going (same_fault _ _ e) setup before _ (c.loop-turn.invariant.log setup at before h)

pub returns-in-Err-clause-refused : goal.returns-in-Err-clause-refused
returns-in-Err-clause-refused g c = λ peer e setup at before h. c.in-Err.ensures.refused c.loop-turn.invariant.going peer (same_fault _ _ e) setup before _ (c.loop-turn.invariant.log setup at before h)

pub returns-in-Err-clause-upstreams : goal.returns-in-Err-clause-upstreams
returns-in-Err-clause-upstreams g c = λ keeps k e. c.in-Err.ensures.upstreams c.loop-turn.invariant.going (c.loop-turn.invariant.keeps_rooms ∙ keeps) k (same_fault _ _ e)

pub returns-in-Err-clause-memory : goal.returns-in-Err-clause-memory
returns-in-Err-clause-memory g c = λ e.
    let left = c.in-Err.ensures.memory c.loop-turn.invariant.going (same_fault _ _ e) in
    (left.0 ∙ c.loop-turn.invariant.failures, λ setup at before h. inr (left.1 setup before _ (c.loop-turn.invariant.log setup at before h)))

pub returns-in-Err-clause-hands : goal.returns-in-Err-clause-hands
returns-in-Err-clause-hands g c = λ setup at before h. c.in-Err.ensures.hands c.loop-turn.invariant.going setup before _ (c.loop-turn.invariant.log setup at before h)

pub returns-clause-run : goal.returns-clause-run
returns-clause-run g c = λ setup at before e. serves_run _ _ Turns _ c.loop-turn.service.gateway c.loop-turn.service.rooms _ _ before (c.loop-turn.invariant.log setup at before e) refl

pub returns-clause-calls : goal.returns-clause-calls
returns-clause-calls g c = (let calls = c.loop-turn.invariant.calls in let end = c.loop-turn.auto._turn-end in omega (arith, calls, end))

pub returns-clause-hands : goal.returns-clause-hands
returns-clause-hands g c = λ setup at before e. hands_of _ _ _ c.loop-turn.service.gateway c.loop-turn.service.rooms _ _ before (c.loop-turn.invariant.log setup at before e)

pub returns-clause-turns : goal.returns-clause-turns
returns-clause-turns g c = λ _. (let calls = c.loop-turn.invariant.calls in let end = c.loop-turn.auto._turn-end in let over = c.loop-turn-test.false in omega (arith, calls, end, over))

pub returns-in-Ok-Some-clause-world : goal.returns-in-Ok-Some-clause-world
returns-in-Ok-Some-clause-world g c = λ e. absurd (no_fault _ _ e)

pub returns-in-Ok-Some-clause-front : goal.returns-in-Ok-Some-clause-front
returns-in-Ok-Some-clause-front g c = λ e. absurd (no_fault _ _ e)

pub returns-in-Ok-Some-clause-refused : goal.returns-in-Ok-Some-clause-refused
returns-in-Ok-Some-clause-refused g c = λ peer e. absurd (no_fault _ _ e)

pub returns-in-Ok-Some-clause-upstreams : goal.returns-in-Ok-Some-clause-upstreams
returns-in-Ok-Some-clause-upstreams g c = λ keeps k e. no_fault _ _ e

pub returns-in-Ok-Some-clause-memory : goal.returns-in-Ok-Some-clause-memory
returns-in-Ok-Some-clause-memory g c = λ e. absurd (no_fault _ _ e)

pub returns-in-Ok-Some-clause-failures : goal.returns-in-Ok-Some-clause-failures
returns-in-Ok-Some-clause-failures g c = c.in-Ok-Some.ensures.failures ∙ c.loop-turn.invariant.failures

pub returns-in-Err-clause-run : goal.returns-in-Err-clause-run
returns-in-Err-clause-run g c = tt

pub returns-in-Err-clause-failures : goal.returns-in-Err-clause-failures
returns-in-Err-clause-failures g c = tt

pub returns-in-Err-clause-calls : goal.returns-in-Err-clause-calls
returns-in-Err-clause-calls g c = tt

pub returns-clause-world : goal.returns-clause-world
returns-clause-world g c = λ e. absurd (no_fault _ _ e)

pub returns-clause-front : goal.returns-clause-front
returns-clause-front g c = λ e. absurd (no_fault _ _ e)

pub returns-clause-refused : goal.returns-clause-refused
returns-clause-refused g c = λ peer e. absurd (no_fault _ _ e)

pub returns-clause-upstreams : goal.returns-clause-upstreams
returns-clause-upstreams g c = λ keeps k e. no_fault _ _ e

pub returns-clause-memory : goal.returns-clause-memory
returns-clause-memory g c = λ e. absurd (no_fault _ _ e)

pub returns-clause-failures : goal.returns-clause-failures
returns-clause-failures g c = c.loop-turn.invariant.failures

pub returns-in-Ok-Some-clause-calls_are : goal.returns-in-Ok-Some-clause-calls_are
returns-in-Ok-Some-clause-calls_are g c = λ setup at.
    served_ended _ _ _ _ _ setup _ _ c.take_turn.new.self.gateway c.take_turn.new.self.rooms _ c.in-Ok-Some.ended refl
    ((rw c.in-Ok-Some.field-0-is at c.in-Ok-Some.ensures.calls_are) c.loop-turn.invariant.going setup _ (c.loop-turn.invariant.runs setup at))

pub returns-in-Err-clause-calls_are : goal.returns-in-Err-clause-calls_are
returns-in-Err-clause-calls_are g c = λ setup at. c.in-Err.ensures.calls_are c.loop-turn.invariant.going setup _ (c.loop-turn.invariant.runs setup at)

pub returns-clause-calls_are : goal.returns-clause-calls_are
returns-clause-calls_are g c = λ setup at. served_ended _ _ _ _ _ setup _ _ c.loop-turn.service.gateway c.loop-turn.service.rooms _ Turns refl (c.loop-turn.invariant.runs setup at)
