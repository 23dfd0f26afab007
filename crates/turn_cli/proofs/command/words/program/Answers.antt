use Rattle.std.proofs.Common.{ap, ◌∙◌, true}
use Rattle.clap.specs.Simple.{App, app_of_fields}
use Rattle.turn_cli.specs.Table.{told, program_of}
use Rattle.turn_cli.proofs.command.words.program.Goals as goal

requires_one : App → App
requires_one app = record app { top = record app.top { subcommand_required = true } }

no_help : App → App
no_help app = record app { top = record app.top { disable_help_subcommand = true } }

pub returns : goal.returns
unfolding told program_of requires_one no_help
returns c =
    ap app_of_fields c.disable_help_subcommand.ensures
    ∙ ap no_help (ap app_of_fields c.subcommand_required.ensures)
    ∙ ap (λ (app : App). no_help (requires_one app)) c.new.ensures.app
