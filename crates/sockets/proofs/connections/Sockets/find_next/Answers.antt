use Rattle.std.proofs.Common.{◌∙◌, subst}
use Rattle.std.specs.Prelude.{None, Ok, IfOk}
use Rattle.sockets.specs.Portions.{FitsPortion}
use Rattle.sockets.proofs.Moving.{moves_twice, moves_on, moves_failed, moves_quiet}
use Rattle.sockets.proofs.connections.Sockets.find_next.Goals as goal

pub returns-in_err-event-2-clause-moves : goal.returns-in_err-event-2-clause-moves
returns-in_err-event-2-clause-moves g c =
    let aside = moves_quiet _ _ c.in_ok-event.field-0 _ _ _ _ c.in_default.is c.in_ok-event.ensures.moves in
    moves_on _ _ c.from_residual-in_err-event-2.result _ _ _ _ _ _ _ c.from_residual-in_err-event-2.ensures.0 aside c.in_err-event-2.ensures.moves

pub returns-in-Some-2-clause-moves : goal.returns-in-Some-2-clause-moves
returns-in-Some-2-clause-moves g c =
    let aside = moves_quiet _ _ c.in_ok-event.field-0 _ _ _ _ c.in_default.is c.in_ok-event.ensures.moves in
    moves_twice _ _ _ _ _ _ _ _ _ aside (rw (← c.in-Some-2.is) c.in_ok-event-2.ensures.moves)

pub returns-then-is_shared-clause-moves : goal.returns-then-is_shared-clause-moves
returns-then-is_shared-clause-moves g c =
    let aside = moves_quiet _ _ c.in_ok-event.field-0 _ _ _ _ c.in_default.is c.in_ok-event.ensures.moves in
    let there = moves_quiet _ _ c.in_ok-event-2.field-0 _ _ _ _ c.in_default-2.is c.in_ok-event-2.ensures.moves in
    moves_twice _ _ (Ok None) _ _ _ _ _ _ aside there

pub returns-in_err-look-clause-moves : goal.returns-in_err-look-clause-moves
returns-in_err-look-clause-moves g c =
    let aside = moves_quiet _ _ c.in_ok-event.field-0 _ _ _ _ c.in_default.is c.in_ok-event.ensures.moves in
    let there = moves_quiet _ _ c.in_ok-event-2.field-0 _ _ _ _ c.in_default-2.is c.in_ok-event-2.ensures.moves in
    moves_failed _ _ c.from_residual-in_err-look.result _ _ _ _ c.from_residual-in_err-look.ensures.0
    (moves_twice _ _ (Ok None) _ _ _ _ _ _ aside (moves_twice _ _ (Ok None) _ _ _ _ _ _ there c.look.ensures.moves))

pub returns-clause-moves : goal.returns-clause-moves
returns-clause-moves g c =
    let aside = moves_quiet _ _ c.in_ok-event.field-0 _ _ _ _ c.in_default.is c.in_ok-event.ensures.moves in
    let there = moves_quiet _ _ c.in_ok-event-2.field-0 _ _ _ _ c.in_default-2.is c.in_ok-event-2.ensures.moves in
    moves_twice _ _ _ _ _ _ _ _ _ aside (moves_twice _ _ _ _ _ _ _ _ _ there (moves_twice _ _ _ _ _ _ _ _ _ c.look.ensures.moves c.find_event-2.ensures.moves))

pub returns-in-Some-2-clause-within : goal.returns-in-Some-2-clause-within
returns-in-Some-2-clause-within g c =
    subst (FitsPortion _) c.in-Some-2.is (subst (λ portion. FitsPortion portion c.in_ok-event-2.field-0) c.find_aside.ensures.portion c.in_ok-event-2.ensures.within)

pub returns-clause-within : goal.returns-clause-within
returns-clause-within g c =
    let same = c.look.ensures.portion ∙ (c.find_event.ensures.portion ∙ c.find_aside.ensures.portion) in
    subst (λ portion. IfOk c.find_event-2.result (λ event. FitsPortion portion event)) same c.find_event-2.ensures.within
