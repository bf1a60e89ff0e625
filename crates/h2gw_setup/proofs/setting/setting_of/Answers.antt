use Rattle.std.proofs.lemmas.Result.{err_from_is_err_and}
use Rattle.h2gw_setup.proofs.Refused.{config_stop}
use Rattle.h2gw_setup.proofs.setting.setting_of.Goals as goal

pub returns-in_err-addresses-clause-stops : goal.returns-in_err-addresses-clause-stops
returns-in_err-addresses-clause-stops c =
    let carried = err_from_is_err_and c.from_residual.result c.from_residual.ensures.1 in
    let lacks = rw c.deref.ensures.value at c.in_err-addresses.ensures.stops in
    rw (carried.1, carried.2) (config_stop c.args.text.now c.in-Ok.config c.in_err-addresses.field-0.0 c.in-Ok.ensures.ok lacks)
