use Rattle.std.proofs.Common.{rules}
use Rattle.turn_rules.proofs.AllTables.{unknown_alike}
use Rattle.turn_rules.proofs.tableless.tableless_outcome.Goals as goal

pub returns-then-has_unknown : goal.returns-then-has_unknown
returns-then-has_unknown c = search (rules, unknown_alike)
