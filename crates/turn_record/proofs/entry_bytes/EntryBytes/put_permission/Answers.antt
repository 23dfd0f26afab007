use Rattle.std.proofs.Common.{◌∷◌, []}
use Rattle.std.specs.Int.{w32, w64, to_be_bytes}
use Rattle.turn_record.proofs.Appended.{appended, no_more}
use Rattle.turn_record.proofs.entry_bytes.EntryBytes.put_permission.Goals as goal

pub returns : goal.returns
returns c =
    let ip = to_be_bytes w32 c.args.ip in
    let expiry = to_be_bytes w64 c.args.expiry in
    appended _ _ _ ip (expiry ∷ []) (rw c.to_be_bytes.ensures at c.put.ensures) (appended _ _ _ expiry [] (rw c.to_be_bytes-2.ensures at c.put-2.ensures) (no_more _))
