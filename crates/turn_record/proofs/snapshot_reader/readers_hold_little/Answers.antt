use Rattle.turn_record.proofs.Onward.{held_is_short}
use Rattle.turn_record.proofs.snapshot_reader.readers_hold_little.Goals as goal

pub returns : goal.returns
returns g c = λ v b r fed was none. held_is_short v b r.refused r.restored r.held.items fed none was.under was.expects
