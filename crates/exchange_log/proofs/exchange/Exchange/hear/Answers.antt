use Rattle.std.proofs.Common.{rules, ◌≡◌, refl}
use Rattle.response_texts.specs.declared.fault.ResponseFault.TheVariants.{Memory}
use Rattle.exchange_log.proofs.exchange.Exchange.hear.Goals as goal

pub returns-in-Err : goal.returns-in-Err
returns-in-Err c =
    let other : c.in-Err.field-0 ≡ Memory → ⊥ = search rules in
    (record { received = c.saturating_add-self.ensures; sent = refl; is_taken = refl; line = refl; most = refl; begun = refl }, c.in-Err.ensures.fault other, refl)
