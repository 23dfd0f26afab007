use Rattle.std.proofs.Common.{◌≡◌, take}
use Rattle.turn_cli.specs.Table.{app_of_rows, told}
use Rattle.turn_cli.proofs.command.words.table_command.Given as goal

abbrev pub invariant-loop-synopsis : goal.invariant-loop-synopsis
invariant-loop-synopsis l = told l.command ≡ app_of_rows (take l.synopsis-index l.synopses)
