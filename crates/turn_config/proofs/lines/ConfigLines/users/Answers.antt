use Rattle.std.proofs.Common.{rules}
use Rattle.std.proofs.lemmas.Map.Iter.{rest_so_far, rest_more}
use Rattle.std.specs.Map.Iter.{deref_pair}
use Rattle.turn_config.proofs.Keys.{adds_next, no_user}
use Rattle.turn_config.proofs.lines.ConfigLines.users.Goals as goal

pub loop-name-init : goal.loop-name-init
loop-name-init g c = no_user _ _ c.new-users.ensures

pub loop-name-preserved : goal.loop-name-preserved
loop-name-preserved g c =
    let so_far = rest_so_far deref_pair c.loop-name.yielded c.into_iter-name-iterator.result c.loop-name.name-iterator c.loop-name.yielded_by in
    let here = rest_more deref_pair c.loop-name.name-iterator c.next.new.self c.next.result (c.in-Some.name, c.in-Some.password) c.in-Some.is c.next.ensures.steps in
    adds_next c.loop-name.yielded (c.in-Some.name, c.in-Some.password) c.self.inside.passwords.entries c.next.new.self _ _ c.add_key.new.users
    (search rules) (search rules) (search rules) c.loop-name.invariant
