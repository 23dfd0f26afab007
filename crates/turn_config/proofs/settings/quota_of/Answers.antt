use Rattle.std.proofs.Common.{rules}
use Rattle.turn_config.proofs.settings.quota_of.Goals as goal

pub returns-then-quota-le1024 : goal.returns-then-quota-le1024
returns-then-quota-le1024 c = search rules
