use Rattle.std.proofs.Common.{refl}
use Rattle.turn_record.proofs.Onward.{fed_nothing}
use Rattle.turn_record.proofs.snapshot_reader.SnapshotReader.new.Goals as goal

pub returns-clause-fed : goal.returns-clause-fed
returns-clause-fed g c = record { version = refl; limits = refl; under = tt; expects = fed_nothing c.args.version c.args.limits c.new.result.items c.new.ensures.items }
