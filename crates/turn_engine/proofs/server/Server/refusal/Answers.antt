use Rattle.std.proofs.Common.{rules}
use Rattle.turn_engine.proofs.server.Server.refusal.Goals as goal

pub returns-then-is_full-clause-stopped : goal.returns-then-is_full-clause-stopped
returns-then-is_full-clause-stopped g c = search rules

pub returns-then-is_full-clause-full : goal.returns-then-is_full-clause-full
returns-then-is_full-clause-full g c = search rules
