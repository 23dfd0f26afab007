use Rattle.std.proofs.Common.{length, take, ◌++◌, ◌-◌, ◌≡◌, ◌≤◌}
use Rattle.turn_nbd.specs.Wire.{received}
use Rattle.turn_nbd.proofs.wire.Wire.receive.Given as goal

abbrev pub invariant-loop-done : goal.invariant-loop-done
invariant-loop-done g l = record {
  within : l.done ≤ length l.buffer;
  len : length l.buffer ≡ length l.initial.buffer;
  passed : l.self ≡ l.initial.self ++ received (take l.done l.buffer);
}

abbrev pub decreases-loop-done : goal.decreases-loop-done
decreases-loop-done g l = length l.buffer - l.done
