use Rattle.std.proofs.Common.{◌≤◌, arith}
use Rattle.turn_table.proofs.Places.{all_next, all_of}
use Rattle.turn_table.proofs.Ready.{min_below}
use Rattle.turn_table.proofs.sorted_map.earliest.Goals as goal

pub loop-slot-preserved : goal.loop-slot-preserved
loop-slot-preserved g c =
    let least = min_below c.loop-slot.earliest c.expiry.result c.min-earliest.result c.min-earliest.ensures in
    all_next (λ e. c.loop-slot.earliest ≤ g.V.Expires.expiry e.1) (λ e. c.min-earliest.result ≤ g.V.Expires.expiry e.1) (λ e le. omega (arith, le, least.0))
    c.args.items.now c.loop-slot.slot-index c.slot-item.result c.loop-slot-test.true c.slot-item.is (omega (arith, least.1, c.expiry.ensures)) c.loop-slot.invariant

pub returns : goal.returns
returns g c = all_of (λ e. c.loop-slot.earliest ≤ g.V.Expires.expiry e.1) c.args.items.now c.loop-slot.slot-index (omega arith) c.loop-slot.invariant
