use Rattle.std.proofs.Common.{◌≤◌, length, map, take}
use Rattle.turn_cli.specs.Read.{AreListen}
use Rattle.turn_cli.proofs.command.listen.listen_of.Given as goal

abbrev pub invariant-loop-text : goal.invariant-loop-text
invariant-loop-text l =
    (length l.addresses.items ≤ 8) × AreListen (map (λ text. text.now) (take l.text-index l.texts)) l.addresses.items
