use Rattle.std.proofs.Common.{◌∷◌, []}
use Rattle.std.specs.Int.{w16, w64, to_be_bytes}
use Rattle.turn_record.specs.Prelude.{endpoint}
use Rattle.turn_record.proofs.Appended.{appended, no_more}
use Rattle.turn_record.proofs.entry_bytes.EntryBytes.put_channel.Goals as goal

pub returns : goal.returns
returns c =
    let number = to_be_bytes w16 c.args.number in
    let peer = endpoint c.args.bound.peer in
    let expiry = to_be_bytes w64 c.args.bound.expiry in
    appended _ _ _ number (peer ∷ expiry ∷ []) (rw c.get.ensures.value at (rw c.to_be_bytes.ensures at c.put.ensures))
    (appended _ _ _ peer (expiry ∷ []) c.put_endpoint.ensures (appended _ _ _ expiry [] (rw c.to_be_bytes-2.ensures at c.put-2.ensures) (no_more _)))
