use Rattle.std.proofs.Common.{◌≡◌, ◌+◌, length, inr, arith}
use Rattle.driver.proofs.Keeping.{steps_same, steps_more, last_full, on_err_too}
use Rattle.driver.proofs.memory.add_output.Goals as goal

pub returns-in_err-push-clause-err : goal.returns-in_err-push-clause-err
returns-in_err-push-clause-err c = on_err_too c.from_residual-in_err-push.result (steps_same c.args.log.now c.in-Some.last c.index-log-last.result c.push.new.self c.in_err-push.ensures.items)

pub returns-clause-log : goal.returns-clause-log
returns-clause-log c = λ before step is.
    let last : c.in-Some.last + 1 ≡ length c.args.log.now = (let e = c.in-Some.ensures in omega (arith, e)) in
    steps_more c.args.log.now c.in-Some.last c.index-log-last.result c.push.new.self c.args.output.now c.in_ok-copied.copied last c.in_ok-push.ensures.items c.in_ok-copied.ensures.is before step is

pub returns-in_err-push-clause-full : goal.returns-in_err-push-clause-full
returns-in_err-push-clause-full c =
    let last : c.in-Some.last + 1 ≡ length c.args.log.now = (let e = c.in-Some.ensures in omega (arith, e)) in
    on_err_too c.from_residual-in_err-push.result (inr (last_full c.args.log.now c.in-Some.last c.index-log-last.result last c.in_err-push.ensures.full))
