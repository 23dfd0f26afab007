use Rattle.std.proofs.Common.{arith}
use Rattle.turn_record.specs.declared.version.Version.TheVariants.{V2}
use Rattle.turn_store.proofs.store.Store.next_journal.Goals as goal

pub new-requires-clause-short : goal.new-requires-clause-short
new-requires-clause-short g c = omega (arith, c.max_payload.ensures, c.self.invariant.small V2)
