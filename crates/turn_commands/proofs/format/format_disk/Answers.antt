use Rattle.std.proofs.Common.{rules, ◌∙◌}
use Rattle.turn_commands.proofs.format.format_disk.Goals as goal

pub returns-clause-count : goal.returns-clause-count
returns-clause-count g c = c.in_ok-format.ensures.uses.count (λ e. cc) ∙ c.in_ok-write_zeros.ensures.count

pub returns-clause-formatted : goal.returns-clause-formatted
returns-clause-formatted g c = search rules

pub returns-clause-done : goal.returns-clause-done
returns-clause-done g c = search rules
