use Rattle.turn_rules.proofs.AllTables.{alike, answered_alike, decided_alike, no_act_decided}
use Rattle.turn_rules.proofs.laws.answers_of_no_table.Goals as goal

pub returns-clause-decision : goal.returns-clause-decision
returns-clause-decision c = λ pairs later s c k f t d v port other no_table. decided_alike d v no_table pairs later s c k f t port other

pub returns-clause-no_act : goal.returns-clause-no_act
returns-clause-no_act c = λ pairs s c f t d v port no_table. (no_act_decided d v no_table pairs s c f t port, (alike d v no_table).1.no_port pairs s c f t)

pub returns-clause-answers : goal.returns-clause-answers
returns-clause-answers c = λ pairs later s range other h g t failed failed_then f d v o no_table. answered_alike d v no_table pairs later s range other h g t failed failed_then f o
