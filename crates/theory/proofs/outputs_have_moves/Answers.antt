use Rattle.theory.specs.Moves.{Decision}
use Rattle.theory.specs.Moves.Decision.{Sends}
use Rattle.theory.specs.Steps.{told_behind}
use Rattle.theory.proofs.Going as going
use Rattle.theory.proofs.outputs_have_moves.Goals as goal

pub returns-clause-owed : goal.returns-clause-owed
returns-clause-owed c setup s noted next owed = going.may_pay setup (told_behind setup s (Sends noted next)) s noted next owed

pub returns-clause-given : goal.returns-clause-given
returns-clause-given c setup s noted next gives = going.may_give setup (told_behind setup s (Sends noted next)) s noted next gives

pub returns-clause-act : goal.returns-clause-act
returns-clause-act c setup s act open_yet may = going.may_act setup (told_behind setup s (Decision.Acts act)) s act open_yet may
