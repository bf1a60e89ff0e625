use Rattle.std.proofs.Common.{sym, subst}
use Rattle.std.specs.Prelude.{pos, ◌+ℤ◌}
use Rattle.std.proofs.Common.{arith}
use Rattle.std.proofs.lemmas.Int.{ints}
use Rattle.model.specs.Windows.{IsSize}
use Rattle.theory_errors.specs.Summary.{Stream as Kept}
use Rattle.connection_state.proofs.Answering.{fits_so}
use Rattle.connection_state.proofs.connection.update_code.Goals as goal

pub returns-clause-fits : goal.returns-clause-fits
returns-clause-fits c =
    subst (λ (k : Kept). IsSize (k.balance +ℤ pos c.args.increment)) (sym c.in-Some.ensures.live.found) (fits_so c.args.settings.now c.args.increment c.in-Some.live.now.balance c.balance.ensures.in_range (grind (arith, ints, c.if-window-from-gt-GREATEST.false, c.from.ensures, c.from-2.ensures, c.initial_window.ensures.is, c.balance.ensures.is)))
