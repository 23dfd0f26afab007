use Rattle.std.proofs.Common.{◌≡◌, ◌+◌, ◌≤◌, ◌++◌, drop, length, vec_capacity}
use Rattle.std.specs.Int.{to_be_bytes, w32}
use Rattle.turn_record.specs.Prelude.{each}
use Rattle.turn_record.proofs.write.put_each.Given as goal

abbrev pub invariant-loop-ip : goal.invariant-loop-ip
invariant-loop-ip g l = record {
  items : l.out.items ++ each (to_be_bytes w32) (drop l.ip-index l.ips) ≡ l.fn.out.items ++ each (to_be_bytes w32) l.ips;
  room : length l.out.items + length (each (to_be_bytes w32) (drop l.ip-index l.ips)) ≤ vec_capacity l.out;
  capacity : vec_capacity l.fn.out ≤ vec_capacity l.out;
}
