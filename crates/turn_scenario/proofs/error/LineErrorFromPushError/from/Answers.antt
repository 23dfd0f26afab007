use Rattle.std.proofs.Common.{rules}
use Rattle.turn_scenario.proofs.error.LineErrorFromPushError.from.Goals as goal

pub returns-in-TooLong : goal.returns-in-TooLong
returns-in-TooLong c = search rules
