use Rattle.std.proofs.Common.{◌≡◌, ◌+◌}
use Rattle.std.specs.FinMap as fin
use Rattle.turn_history.specs.Prelude.{purged}
use Rattle.turn_store.proofs.replay.advance.Given as goal

abbrev pub decreases-loop-moment : goal.decreases-loop-moment
decreases-loop-moment g l = fin.len l.table.contents.entries + fin.len l.table.contents.reserved

abbrev pub invariant-loop-moment : goal.invariant-loop-moment
invariant-loop-moment g l = record {
  moment : l.table.moment ≡ l.initial.table.moment;
  bounds : l.table.bounds ≡ l.initial.table.bounds;
  contents : purged l.moment l.table.contents ≡ purged l.moment l.initial.table.contents;
}
