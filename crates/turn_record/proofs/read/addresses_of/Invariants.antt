use Rattle.std.proofs.Common.{◌≡◌, ◌-◌, []}
use Rattle.turn_record.specs.Prelude.{many, address_at}
use Rattle.turn_record.proofs.read.addresses_of.Given as goal

abbrev pub invariant-loop : goal.invariant-loop
invariant-loop g l = many address_at (l.count - l.counter) l.addresses.items l.rest ≡ many address_at l.count [] l.bytes
