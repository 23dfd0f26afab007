use Rattle.std.proofs.Common.{◌∷◌, []}
use Rattle.turn_record.specs.Prelude.{endpoint}
use Rattle.turn_record.proofs.Appended.{appended, no_more}
use Rattle.turn_record.proofs.entry_bytes.EntryBytes.put_tuple.Goals as goal

pub returns : goal.returns
returns c =
    let client = endpoint c.args.tuple.client in
    let server = endpoint c.args.tuple.server in
    appended _ _ _ client (server ∷ []) c.put_endpoint.ensures (appended _ _ _ server [] c.put_endpoint-2.ensures (no_more _))
