use Rattle.theory_responses.proofs.Deciding as deciding
use Rattle.theory_responses.proofs.part_chosen.Goals as goal

pub returns-clause-next : goal.returns-clause-next
returns-clause-next c = deciding.chosen_next

pub returns-clause-few : goal.returns-clause-few
returns-clause-few c = deciding.chosen_few

pub returns-clause-there : goal.returns-clause-there
returns-clause-there c = deciding.chosen_there
