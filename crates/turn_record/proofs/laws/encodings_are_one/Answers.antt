use Rattle.turn_record.proofs.Batches.{one_act, one_payload}
use Rattle.turn_record.proofs.Snapshots.{one_snapshot}
use Rattle.turn_record.proofs.laws.encodings_are_one.Goals as goal

pub returns : goal.returns
returns c = record { acts = one_act; payloads = one_payload; snapshots = λ v b range s t c d x y p q e. one_snapshot v b range s t c d x y p q e }
