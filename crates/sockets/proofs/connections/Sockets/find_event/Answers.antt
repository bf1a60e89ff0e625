use Rattle.std.proofs.Common.{subst}
use Rattle.std.specs.Prelude.{None, Ok}
use Rattle.sockets.specs.Performed.{Fits}
use Rattle.sockets.specs.Portions.{FitsPortion}
use Rattle.sockets.proofs.Portions.{others_fit}
use Rattle.sockets.proofs.Moving.{moves_twice, moves_on, moves_failed, moves_quiet, client_moves, side_flushed}
use Rattle.sockets.proofs.connections.Sockets.find_event.Goals as goal

pub returns-in-Some-clause-fits : goal.returns-in-Some-clause-fits
returns-in-Some-clause-fits g c = subst (Fits c.args.rooms.now) c.in-Some.is (c.tell_client.ensures.fits c.args.rooms.now)

pub returns-in_err-event-clause-moves : goal.returns-in_err-event-clause-moves
returns-in_err-event-clause-moves g c =
    let untold = moves_quiet _ _ c.tell_client.result _ _ _ _ c.in_default.is c.tell_client.ensures.moves in
    moves_on _ _ c.from_residual.result _ _ _ _ _ _ _ c.from_residual.ensures.0 untold c.in_err-event.ensures.moves

pub returns-in-Some-2-clause-moves : goal.returns-in-Some-2-clause-moves
returns-in-Some-2-clause-moves g c =
    let untold = moves_quiet _ _ c.tell_client.result _ _ _ _ c.in_default.is c.tell_client.ensures.moves in
    moves_twice _ _ _ _ _ _ _ _ _ untold (rw (← c.in-Some-2.is) c.in_ok-event.ensures.moves)

pub returns-in-Some-tell_upstream-clause-moves : goal.returns-in-Some-tell_upstream-clause-moves
returns-in-Some-tell_upstream-clause-moves g c =
    let untold = moves_quiet _ _ c.tell_client.result _ _ _ _ c.in_default.is c.tell_client.ensures.moves in
    let found = moves_quiet _ _ c.in_ok-event.field-0 _ _ _ _ c.in_default-2.is c.in_ok-event.ensures.moves in
    moves_twice _ _ _ _ _ _ _ _ _ untold (moves_twice _ _ _ _ _ _ _ _ _ found (rw (← c.in-Some-tell_upstream.is) c.tell_upstream.ensures.moves))

pub returns-in-Some-tell_upstream-clause-fits : goal.returns-in-Some-tell_upstream-clause-fits
returns-in-Some-tell_upstream-clause-fits g c = subst (Fits c.args.rooms.now) c.in-Some-tell_upstream.is (c.tell_upstream.ensures.fits c.args.rooms.now)

pub returns-in_err-flush-clause-moves : goal.returns-in_err-flush-clause-moves
returns-in_err-flush-clause-moves g c =
    let untold = moves_quiet _ _ c.tell_client.result _ _ _ _ c.in_default.is c.tell_client.ensures.moves in
    let found = moves_quiet _ _ c.in_ok-event.field-0 _ _ _ _ c.in_default-2.is c.in_ok-event.ensures.moves in
    let told = moves_quiet _ _ c.tell_upstream.result _ _ _ _ c.in_default-tell_upstream.is c.tell_upstream.ensures.moves in
    let written = client_moves _ _ _ _ _ (side_flushed _ _ _ _ c.flush.ensures.stays c.flush.ensures.left c.flush.ensures.heard c.flush.ensures.puts) in
    moves_failed _ _ c.from_residual-in_err-flush.result _ _ _ _ c.from_residual-in_err-flush.ensures.0
    (moves_twice _ _ (Ok None) _ _ _ _ _ _ untold (moves_twice _ _ (Ok None) _ _ _ _ _ _ found (moves_twice _ _ (Ok None) _ _ _ _ _ _ told written)))

pub returns-clause-moves : goal.returns-clause-moves
returns-clause-moves g c =
    let untold = moves_quiet _ _ c.tell_client.result _ _ _ _ c.in_default.is c.tell_client.ensures.moves in
    let found = moves_quiet _ _ c.in_ok-event.field-0 _ _ _ _ c.in_default-2.is c.in_ok-event.ensures.moves in
    let told = moves_quiet _ _ c.tell_upstream.result _ _ _ _ c.in_default-tell_upstream.is c.tell_upstream.ensures.moves in
    let written = client_moves _ _ _ _ _ (side_flushed _ _ _ _ c.flush.ensures.stays c.flush.ensures.left c.flush.ensures.heard c.flush.ensures.puts) in
    moves_twice _ _ _ _ _ _ _ _ _ untold (moves_twice _ _ _ _ _ _ _ _ _ found (moves_twice _ _ _ _ _ _ _ _ _ told (moves_twice _ _ _ _ _ _ _ _ _ written c.tell_client-2.ensures.moves)))

pub returns-clause-fits : goal.returns-clause-fits
returns-clause-fits g c = c.tell_client-2.ensures.fits c.args.rooms.now

pub returns-in-Some-clause-within : goal.returns-in-Some-clause-within
returns-in-Some-clause-within g c = subst (FitsPortion _) c.in-Some.is (others_fit _ c.tell_client.result c.tell_client.ensures.told)

pub returns-in-Some-2-clause-within : goal.returns-in-Some-2-clause-within
returns-in-Some-2-clause-within g c =
    subst (FitsPortion _) c.in-Some-2.is (subst (λ portion. FitsPortion portion c.in_ok-event.field-0) c.tell_client.ensures.portion c.in_ok-event.ensures.within)

pub returns-in-Some-tell_upstream-clause-within : goal.returns-in-Some-tell_upstream-clause-within
returns-in-Some-tell_upstream-clause-within g c =
    subst (FitsPortion _) c.in-Some-tell_upstream.is (others_fit _ c.tell_upstream.result c.tell_upstream.ensures.told)

pub returns-clause-within : goal.returns-clause-within
returns-clause-within g c = others_fit _ c.tell_client-2.result c.tell_client-2.ensures.told
