use Rattle.std.proofs.Common.{rules}
use Rattle.turn_config.proofs.lines.ConfigLines.server_config.Goals as goal

pub returns-in-Ok : goal.returns-in-Ok
returns-in-Ok g c = search rules
