use Rattle.turn_ending.proofs.Deletions.{one_deletes, run_deletes}
use Rattle.turn_ending.proofs.laws.ends_change_nothing_else.Goals as goal

pub returns-clause-one : goal.returns-clause-one
returns-clause-one c tuples s h t failed a o = one_deletes tuples s h t failed a o

pub returns-clause-run : goal.returns-clause-run
returns-clause-run c tuples s h t taken = run_deletes tuples s h t taken
