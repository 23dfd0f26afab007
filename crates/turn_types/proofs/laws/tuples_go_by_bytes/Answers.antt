use Rattle.std.proofs.Common.{rules}
use Rattle.turn_types.proofs.Order.{by_bytes}
use Rattle.turn_types.proofs.laws.tuples_go_by_bytes.Goals as goal

pub returns-clause-bytes : goal.returns-clause-bytes
returns-clause-bytes c = by_bytes

pub returns-clause-derived : goal.returns-clause-derived
returns-clause-derived c = search rules
