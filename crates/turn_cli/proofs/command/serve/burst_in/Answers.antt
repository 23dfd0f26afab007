use Rattle.std.proofs.Common.{rules}
use Rattle.turn_cli.proofs.command.serve.burst_in.Goals as goal

pub returns-then-burst-le-MAX_BURST-clause-value : goal.returns-then-burst-le-MAX_BURST-clause-value
returns-then-burst-le-MAX_BURST-clause-value c = search rules

pub returns-then-burst-le-MAX_BURST-clause-range : goal.returns-then-burst-le-MAX_BURST-clause-range
returns-then-burst-le-MAX_BURST-clause-range c = search rules
