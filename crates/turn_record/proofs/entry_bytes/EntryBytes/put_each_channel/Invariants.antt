use Rattle.std.proofs.Common.{◌≡◌, ◌+◌, ◌-◌, ◌*◌, ◌≤◌, ◌++◌, drop, length}
use Rattle.turn_record.specs.Prelude.{each, channel, max_entry_bytes}
use Rattle.turn_record.proofs.entry_bytes.EntryBytes.put_each_channel.Given as goal

abbrev pub invariant-loop-number : goal.invariant-loop-number
invariant-loop-number l = record {
  items : l.self ++ each channel (drop l.number-index l.channels) ≡ l.fn.self ++ each channel l.channels;
  room : length l.self + 16 * (length l.channels - l.number-index) ≤ max_entry_bytes;
}
