use Rattle.std.proofs.Common.{subst}
use Rattle.std.specs.Prelude.{None, Ok, IfOk}
use Rattle.sockets.specs.Portions.{FitsPortion}
use Rattle.sockets.proofs.Portions.{others_fit}
use Rattle.sockets.proofs.Moving.{moves_quiet, moves_twice, moves_failed}
use Rattle.sockets.proofs.Idling.{hears_from, hears_other}
use Rattle.sockets.proofs.connections.Sockets.find_aside.Goals as goal

pub returns-then-self-eq0-clause-moves : goal.returns-then-self-eq0-clause-moves
returns-then-self-eq0-clause-moves g c =
    moves_twice _ _ _ _ _ _ _ _ _ c.look.ensures.moves c.read_ready.ensures.moves

pub returns-in_err-look-clause-moves : goal.returns-in_err-look-clause-moves
returns-in_err-look-clause-moves g c = moves_failed _ _ c.from_residual.result _ _ _ _ c.from_residual.ensures.0 c.look.ensures.moves

pub returns-in_err-look_ahead-clause-moves : goal.returns-in_err-look_ahead-clause-moves
returns-in_err-look_ahead-clause-moves g c =
    let told = moves_quiet _ _ c.tell_in_turn.result _ _ _ _ c.in_default.is c.tell_in_turn.ensures.moves in
    moves_failed _ _ c.from_residual-in_err-look_ahead.result _ _ _ _ c.from_residual-in_err-look_ahead.ensures.0 (moves_twice _ _ (Ok None) _ _ _ _ _ _ told c.look_ahead.ensures.moves)

pub returns-clause-moves : goal.returns-clause-moves
returns-clause-moves g c =
    let told = moves_quiet _ _ c.tell_in_turn.result _ _ _ _ c.in_default.is c.tell_in_turn.ensures.moves in
    moves_twice _ _ (Ok None) _ _ _ _ _ _ told c.look_ahead.ensures.moves

pub returns-in-Some-clause-fits : goal.returns-in-Some-clause-fits
returns-in-Some-clause-fits g c = rw c.in-Some.is at c.tell_in_turn.ensures.fits c.args.rooms.now

pub returns-then-self-eq0-clause-within : goal.returns-then-self-eq0-clause-within
returns-then-self-eq0-clause-within g c = subst (λ portion. IfOk c.read_ready.result (λ event. FitsPortion portion event)) c.look.ensures.portion c.read_ready.ensures.within

pub returns-in-Some-clause-within : goal.returns-in-Some-clause-within
returns-in-Some-clause-within g c = subst (FitsPortion _) c.in-Some.is (others_fit _ c.tell_in_turn.result c.tell_in_turn.ensures.told)
