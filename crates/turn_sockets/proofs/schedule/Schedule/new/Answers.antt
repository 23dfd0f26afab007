use Rattle.turn_sockets.proofs.Listing.{no_flags}
use Rattle.turn_sockets.proofs.schedule.Schedule.new.Goals as goal

pub invariant_of-result : goal.invariant_of-result
invariant_of-result g c =
    rw (c.in_ok-with_capacity.ensures.items, c.in_ok-with_capacity-2.ensures.items, c.in_ok-with_capacity-3.ensures.items)
    (no_flags _ (c.in_ok-from_elem.ensures.items_if_clones_equal (λ y is. is)))
