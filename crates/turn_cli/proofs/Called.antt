-- The command that is called.
use Rattle.std.proofs.Common.{◌≡◌, IfOk, List, Result, Ok, Err, subst}
use Rattle.clap.specs.Simple.{App, HasMatchesOf}
use Rattle.clap.specs.Walk.{Text}
use Rattle.clap.specs.declared.parser.matches.ArgMatches.{ArgMatches}
use Rattle.turn_cli.specs.Read.{IsCalled, IsRead}
use Rattle.turn_cli.specs.Table.{IsFoundIn, app_of_rows}
use Rattle.turn_cli.specs.declared.command.Command.{Command}
use Rattle.turn_cli.specs.declared.command.found.Found.{Found}
use Rattle.turn_cli.specs.declared.command.table.Synopsis.{Synopsis}
use Rattle.turn_cli.specs.declared.error.CliError.{CliError}

-- the program that `clap` parsed with is that of the rows
pub called_by : (result : Result Command CliError) (rows : List Synopsis) (words : List Text) (matches : ArgMatches) (found : Found)
    (program : App) → program ≡ app_of_rows rows → HasMatchesOf program words matches → IsFoundIn rows matches found
    → IfOk result (λ command. IsRead found command) → IfOk result (λ command. IsCalled rows words command)
called_by (Ok command) rows words matches found program same parsed is_found is_read =
    let P : App → Type 0 = λ app. HasMatchesOf app words matches in
    record { matches = matches; parsed = subst P same parsed; found = found; is_found = is_found; is_read = is_read }
called_by (Err fault) rows words matches found program same parsed is_found is_read = is_read
