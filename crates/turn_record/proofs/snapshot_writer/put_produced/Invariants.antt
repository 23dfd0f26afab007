use Rattle.std.proofs.Common.{◌≡◌, ◌+◌, ◌≤◌, ◌++◌, length, vec_capacity}
use Rattle.turn_record.specs.Prelude.{max_entry_bytes}
use Rattle.turn_record.proofs.snapshot_writer.put_produced.Given as goal

abbrev pub invariant-pieces : goal.invariant-pieces
invariant-pieces g l = record {
  items : l.out.items ++ g.P.Producer.rest l.producer ≡ l.fn.out.items ++ g.P.Producer.rest l.fn.producer;
  room : length l.out.items + length (g.P.Producer.rest l.producer) ≤ vec_capacity l.out;
  capacity : vec_capacity l.fn.out ≤ vec_capacity l.out;
  size_of_piece : length l.piece ≡ max_entry_bytes;
}

abbrev pub decreases-pieces : goal.decreases-pieces
decreases-pieces g l = length (g.P.Producer.rest l.producer)
