use Rattle.turn_disk.proofs.Since.{since_within, outcome_range}
use Rattle.turn_disk.proofs.writes.write_within.Goals as goal

pub returns-clause-stop : goal.returns-clause-stop
returns-clause-stop g c = λ crash_model from count base low high but.
    since_within from count base _ _ but c.args.at _ low high (outcome_range _ _ _ _ _ (c.write_at.ensures.outcome crash_model))
