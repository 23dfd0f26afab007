use Rattle.std.proofs.Common.{length}
use Rattle.turn_disk.proofs.Since.{since_weaken}
use Rattle.turn_journal.proofs.Growing.{after_write}
use Rattle.turn_journal.proofs.gate.write_after.Goals as goal

pub returns-clause-stop : goal.returns-clause-stop
returns-clause-stop g c = λ crash_model settled from payloads limit is.
    since_weaken _ _ _ _ (after_write from payloads c.args.gate limit _ is (length c.args.bytes.now)) (c.write_through.ensures.stop crash_model settled)
