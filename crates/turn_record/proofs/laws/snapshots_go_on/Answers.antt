use Rattle.turn_record.proofs.Kept.{snapshot-purged, snapshot-applied}
use Rattle.turn_record.proofs.laws.snapshots_go_on.Goals as goal

pub returns : goal.returns
returns c = record { later = snapshot-purged; acts = snapshot-applied }
