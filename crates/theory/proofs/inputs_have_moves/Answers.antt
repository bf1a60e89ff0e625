use Rattle.theory.specs.Moves.Decision.{Breaks, Notes, Hears, Fails, Idles}
use Rattle.theory.specs.Steps.{told_behind}
use Rattle.theory.proofs.Coming as coming
use Rattle.theory.proofs.inputs_have_moves.Goals as goal

pub returns-clause-breach : goal.returns-clause-breach
returns-clause-breach c setup s breach ready = coming.may_break setup (told_behind setup s (Breaks breach)) s ready breach

pub returns-clause-event : goal.returns-clause-event
returns-clause-event c setup s event ready none may = coming.may_note setup (told_behind setup s (Notes event)) s ready event none may

pub returns-clause-frame : goal.returns-clause-frame
returns-clause-frame c setup s noted next addition ready may = coming.may_take_by_book setup s ready noted next addition may

pub returns-clause-hears : goal.returns-clause-hears
returns-clause-hears c setup s event stream news heard ready may = coming.may_hear setup (told_behind setup s (Hears event stream news heard)) s ready event stream news heard may

pub returns-clause-fails : goal.returns-clause-fails
returns-clause-fails c setup s event stream heard ready may = coming.may_fail setup (told_behind setup s (Fails event stream heard)) s ready event stream heard may

pub returns-clause-idles : goal.returns-clause-idles
returns-clause-idles c setup s event ready may = coming.may_idle setup (told_behind setup s (Idles event)) s ready event may
