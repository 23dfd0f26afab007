use Rattle.std.proofs.Common.{ap, rules, ◌∙◌, nat_cmp}
use Rattle.std.specs.Map.{remove_entry}
use Rattle.std.specs.BTreeMap.{is_at}
use Rattle.turn_sockets.proofs.Finding.{restored}
use Rattle.turn_sockets.proofs.binder.Binder.bind_both.Goals as goal

pub returns-then-not-is_bound-clause-refused : goal.returns-then-not-is_bound-clause-refused
returns-then-not-is_bound-clause-refused g c = λ refused.
    restored c.args.port c.args.sockets.now c.bind.new.sockets c.remove.new.self (c.bind.ensures.inserted (search rules)) c.requires.unbound.0
    (c.remove.ensures.entries ∙ ap (remove_entry (is_at (nat_cmp c.args.port))) (c.bind-second.ensures.refused refused))

pub returns-else-not-is_bound-clause-refused : goal.returns-else-not-is_bound-clause-refused
returns-else-not-is_bound-clause-refused g c = search rules
