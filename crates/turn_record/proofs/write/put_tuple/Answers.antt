use Rattle.std.proofs.Common.{[], ◌∷◌, ap, arith, length, length-append}
use Rattle.turn_record.specs.Prelude.{endpoint}
use Rattle.turn_record.proofs.Appended.{appended, no_more}
use Rattle.turn_record.proofs.write.put_tuple.Goals as goal

pub put_endpoint-requires-2 : goal.put_endpoint-requires-2
put_endpoint-requires-2 g c = omega (arith, ap length c.put_endpoint.ensures.items, length-append c.args.out.now.items (endpoint c.args.tuple.client), c.put_endpoint.ensures.capacity, c.requires)

pub returns-clause-items : goal.returns-clause-items
returns-clause-items g c =
    let server = endpoint c.args.tuple.server in
    appended _ _ _ (endpoint c.args.tuple.client) (server ∷ []) c.put_endpoint.ensures.items (appended _ _ _ server [] c.put_endpoint-2.ensures.items (no_more _))
