use Rattle.std.proofs.Common.{◌≡◌, ◌++◌, List, ℕ}
use Rattle.turn_record.specs.Prelude.{more_at, most_items}
use Rattle.turn_record.proofs.snapshot_progress.restore_items.Given as goal

abbrev pub invariant-loop-alloc : goal.invariant-loop-alloc
invariant-loop-alloc g l = record {
  bounds : l.restored.0.bounds ≡ l.fn.restored.0.bounds;
  goes : (more : List ℕ) → more_at l.version l.fn.restored (l.bytes ++ more) ≡ more_at l.version l.restored (l.rest ++ more);
}

abbrev pub decreases-loop-alloc : goal.decreases-loop-alloc
decreases-loop-alloc g l = most_items l.restored.0.bounds l.restored.1
