use Rattle.std.proofs.Common.{◌≡◌, Ok, arith, rules}
use Rattle.std.specs.FinMap as fin
use Rattle.turn_record.specs.Prelude.{reservation_at}
use Rattle.turn_record.proofs.Reserves.{reservation_read}
use Rattle.turn_record.proofs.reserved.reservation_after.Goals as goal

pub returns-clause-range : goal.returns-clause-range
unfolding reservation_at
returns-clause-range g c =
    let s = c.args.table.now in
    let is : reservation_at s.moment (fin.entries s.contents.entries) (fin.entries s.contents.reserved) c.args.bytes.now ≡ Ok ((c.in_ok-port.port, record { token = c.in_ok-token.token; expiry = c.in_ok-expiry.expiry }), c.in_ok-expiry.rest.now) = search rules in
    reservation_read s.moment c.moment.ensures.at.moment (fin.entries s.contents.entries) (fin.entries s.contents.reserved) c.args.bytes.now (λ i. omega (arith, c.type_inv.bytes i)) _ _ is
