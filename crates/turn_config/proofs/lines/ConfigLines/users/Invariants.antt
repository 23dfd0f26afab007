use Rattle.std.specs.Prelude.{map}
use Rattle.std.specs.Map.Iter.{deref_pair}
use Rattle.turn_config.specs.Lines.{AreUsers, passwords_of}
use Rattle.turn_config.proofs.lines.ConfigLines.users.Given as goal

abbrev pub invariant-loop-name : goal.invariant-loop-name
invariant-loop-name g l = AreUsers (passwords_of (map deref_pair l.yielded)) l.fn.realm l.users
