use Rattle.std.proofs.Common.{◌≡◌, inl, inr, rules}
use Rattle.turn_disk.specs.Prelude.{EachImageSince, IsImage, Syncs, Trace}
use Rattle.turn_disk.proofs.Since.{since_sync}
use Rattle.turn_store.proofs.open.settle.Goals as goal

synced_since : (old new : Trace) → Syncs old new → EachImageSince old new (IsImage old.now)
synced_since old new syncs = since_sync old new (IsImage old.now) (inl syncs) (λ image is. is)

rested_since : (old new : Trace) → new ≡ old → EachImageSince old new (IsImage old.now)
rested_since old new same = since_sync old new (IsImage old.now) (inr same) (λ image is. is)

pub returns-in_err-sync : goal.returns-in_err-sync
returns-in_err-sync g c = search (rules, synced_since, rested_since)

pub returns : goal.returns
returns g c = search (rules, synced_since, rested_since)
