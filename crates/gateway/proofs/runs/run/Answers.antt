use Rattle.gateway.specs.Setups.{setup_of}
use Rattle.gateway.proofs.Running.{explained}
use Rattle.gateway.proofs.runs.run.Goals as goal

pub returns-in-Err-clause-refused : goal.returns-in-Err-clause-refused
returns-in-Err-clause-refused c = explained (setup_of c.args.config.now) c.args.events.now c.run_into.new.outputs.items c.in-Err.fault c.in-Err.ensures.refused

pub returns-in-Ok-clause-safe : goal.returns-in-Ok-clause-safe
returns-in-Ok-clause-safe c = c.in-Ok.ensures.promised.safe
