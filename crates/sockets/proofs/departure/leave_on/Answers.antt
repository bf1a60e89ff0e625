use Rattle.sockets.proofs.Moving.{lost_twice}
use Rattle.sockets.proofs.departure.leave_on.Goals as goal

pub returns-in_err-drop_piece-clause-goes : goal.returns-in_err-drop_piece-clause-goes
returns-in_err-drop_piece-clause-goes g c = lost_twice _ _ _ _ _ c.write_rest.ensures.goes c.drop_piece.ensures

pub returns-clause-goes : goal.returns-clause-goes
returns-clause-goes g c = lost_twice _ _ _ _ _ c.write_rest.ensures.goes c.drop_piece.ensures
