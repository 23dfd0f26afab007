use Rattle.std.proofs.Common.{◌≡◌, false, take, flat_map}
use Rattle.clap.specs.Simple.{new_app}
use Rattle.turn_cli.specs.Table.{has_globals, rules_of_part, told, with_rules}
use Rattle.turn_cli.proofs.command.words.row_command.Given as goal

abbrev pub invariant-loop-part : goal.invariant-loop-part
invariant-loop-part l =
    (told l.command ≡ with_rules (new_app l.synopsis.name.now) (flat_map rules_of_part (take l.part-index l.part-items)))
    × (has_globals l.command ≡ false)
