use Rattle.std.proofs.Common.{subst, sym}
use Rattle.turn_commands.proofs.StoreErrors.{store_fault}
use Rattle.turn_commands.specs.Checks.{IsStoreError}
use Rattle.turn_commands.proofs.check.check_store.Goals as goal
use Rattle.turn_store.specs.Prelude.{snapshot_of}

pub returns-in-Ok-clause-read : goal.returns-in-Ok-clause-read
returns-in-Ok-clause-read g c crash_model = (snapshot_of c.in-Ok.reading.table, rw c.in-Ok.is at (c.read_store-disk.ensures.read crash_model))

pub returns-in-Err-clause-why : goal.returns-in-Err-clause-why
returns-in-Err-clause-why g c crash_model =
    let why = rw c.in-Err.is at (c.read_store-disk.ensures.why crash_model) in
    subst (IsStoreError _ _) (sym c.from.ensures) (store_fault _ _ c.in-Err.fault why)
