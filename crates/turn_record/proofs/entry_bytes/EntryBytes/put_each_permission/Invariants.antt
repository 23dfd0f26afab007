use Rattle.std.proofs.Common.{◌≡◌, ◌+◌, ◌-◌, ◌*◌, ◌≤◌, ◌++◌, drop, length}
use Rattle.turn_record.specs.Prelude.{each, permission, max_entry_bytes}
use Rattle.turn_record.proofs.entry_bytes.EntryBytes.put_each_permission.Given as goal

abbrev pub invariant-loop-ip : goal.invariant-loop-ip
invariant-loop-ip l = record {
  items : l.self ++ each permission (drop l.ip-index l.permissions) ≡ l.fn.self ++ each permission l.permissions;
  room : length l.self + 12 * (length l.permissions - l.ip-index) ≤ max_entry_bytes;
}
