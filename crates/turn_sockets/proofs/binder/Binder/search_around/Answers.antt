use Rattle.std.proofs.Common.{rules}
use Rattle.turn_sockets.proofs.Finding.{left_in_lower, left_in_upper}
use Rattle.turn_sockets.proofs.binder.Binder.search_around.Goals as goal

pub returns-in-Nothing-clause-left : goal.returns-in-Nothing-clause-left
returns-in-Nothing-clause-left g c = search (rules, left_in_upper)

pub returns-in-Found-lower-clause-left : goal.returns-in-Found-lower-clause-left
returns-in-Found-lower-clause-left g c =
    left_in_lower _ _ _ _ _ c.args.range _ _ _ c.in_ok-upper.upper _ (search rules) (search rules) c.search-2.ensures.keeps c.in_ok-upper.ensures.bound c.in_ok-upper.ensures.found c.in_ok-upper.ensures.left c.in_ok-lower.ensures.left
