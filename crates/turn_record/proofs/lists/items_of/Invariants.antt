use Rattle.std.proofs.Common.{◌≡◌, ◌-◌, []}
use Rattle.turn_record.specs.Prelude.{many}
use Rattle.turn_record.proofs.lists.items_of.Given as goal

abbrev pub invariant-loop : goal.invariant-loop
invariant-loop g l = many (g.T.ListItem.item_at l.moment) (l.count - l.counter) l.items.items l.rest ≡ many (g.T.ListItem.item_at l.moment) l.count [] l.bytes
