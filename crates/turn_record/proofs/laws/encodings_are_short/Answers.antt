use Rattle.turn_record.proofs.Sizes.{act_at_most, payload_at_most}
use Rattle.turn_record.proofs.SnapshotSizes.{snapshot_at_most}
use Rattle.turn_record.proofs.laws.encodings_are_short.Goals as goal

pub returns : goal.returns
returns c = record { acts = act_at_most; payloads = payload_at_most; snapshots = λ v b t c s. snapshot_at_most v b t c s.at }
