use Rattle.gateway.specs.Setups.{setup_of}
use Rattle.driver.proofs.Calling.{served_nothing}
use Rattle.driver.proofs.services.serve.Goals as goal

pub returns-clause-memory : goal.returns-clause-memory
returns-clause-memory g c = λ e. let left = c.serve_turns.ensures.memory e in (left.0, left.1 (setup_of c.args.config.now) c.in-Ok.ensures)

pub returns-in_default-clause-calls_are : goal.returns-in_default-clause-calls_are
returns-in_default-clause-calls_are g c = served_nothing _ _ _ _ _ (setup_of c.args.config.now) c.args.world.now

pub returns-clause-calls_are : goal.returns-clause-calls_are
returns-clause-calls_are g c = c.serve_turns.ensures.calls_are (setup_of c.args.config.now) c.in-Ok.ensures
