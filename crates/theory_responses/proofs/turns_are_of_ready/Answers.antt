use Rattle.std.specs.Prelude.{map}
use Rattle.theory_responses.specs.State.{entry_of, state_of}
use Rattle.theory_responses.proofs.Flushing as flushing
use Rattle.theory_responses.proofs.turns_are_of_ready.Goals as goal

pub returns : goal.returns
returns c known moves stream all turn = flushing.turn_ready known (map entry_of moves) (state_of moves) (flushing.run_holds known moves all) stream turn
