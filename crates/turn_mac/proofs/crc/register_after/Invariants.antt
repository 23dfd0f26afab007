use Rattle.std.proofs.Common.{◌≡◌, take}
use Rattle.turn_mac.specs.Register.{register_after}
use Rattle.turn_mac.proofs.crc.register_after.Given as goal

abbrev pub invariant-loop-byte : goal.invariant-loop-byte
invariant-loop-byte l = l.register ≡ register_after l.fn.register (take l.byte-index l.bytes)
