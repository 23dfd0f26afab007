use Rattle.turn_step.proofs.NoTable.{alike_arrival, no_change_of_arrival}
use Rattle.turn_step.proofs.laws.answers_of_no_table.Goals as goal

pub returns-clause-answers : goal.returns-clause-answers
returns-clause-answers c = alike_arrival

pub returns-clause-no_change : goal.returns-clause-no_change
returns-clause-no_change c = no_change_of_arrival
