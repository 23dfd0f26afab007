use Rattle.std.proofs.Common.{sym, ◌∙◌}
use Rattle.turn_engine.proofs.Besides.{apart_from, not_apart, tuple_differs, tuple_is}
use Rattle.turn_engine.proofs.beside.has_tuple.Goals as goal

pub returns-clause-some : goal.returns-clause-some
returns-clause-some c = λ is all. not_apart _ c.args.owner (λ g same. tuple_is g c.args.owner same) c.args.tuples.now (sym c.contains.ensures.value ∙ is) all

pub returns-clause-none : goal.returns-clause-none
returns-clause-none c = λ is. apart_from _ c.args.owner (λ g differs. tuple_differs g c.args.owner differs) c.args.tuples.now (sym c.contains.ensures.value ∙ is)
