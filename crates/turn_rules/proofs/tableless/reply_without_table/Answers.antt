use Rattle.std.proofs.Common.{rules}
use Rattle.turn_rules.proofs.AllTables.{may_answer}
use Rattle.turn_rules.proofs.tableless.reply_without_table.Goals as goal

pub returns-in_ok-write-in-Same-clause-answers : goal.returns-in_ok-write-in-Same-clause-answers
returns-in_ok-write-in-Same-clause-answers g c = λ pairs range h failed. may_answer _ _ _ _ _ _ _ _ _ c.in-Same.outcome (search rules) _ (search rules)
