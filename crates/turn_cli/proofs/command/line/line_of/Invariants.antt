use Rattle.std.proofs.Common.{◌≡◌, ◌++◌, codes, flat_map, string_bytes, take}
use Rattle.turn_cli.specs.Table.{shown_part}
use Rattle.turn_cli.proofs.command.line.line_of.Given as goal

abbrev pub invariant-loop-part : goal.invariant-loop-part
invariant-loop-part l =
    string_bytes l.line ≡ codes "turn " ++ l.synopsis.name.now ++ flat_map shown_part (take l.part-index l.part-items)
