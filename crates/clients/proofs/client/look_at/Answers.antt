use Rattle.clients.proofs.client.look_at.Goals as goal

pub returns-in-Ok-clause-served : goal.returns-in-Ok-clause-served
returns-in-Ok-clause-served g c = c.in-Ok.ensures.stays c.args.service.now

pub returns-in-Err-clause-served : goal.returns-in-Err-clause-served
returns-in-Err-clause-served g c = rw c.fail.ensures (c.in-Err.ensures.fails c.args.service.now)
