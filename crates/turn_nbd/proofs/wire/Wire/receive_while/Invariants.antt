use Rattle.std.proofs.Common.{length, take, ◌++◌, ◌≡◌, ◌≤◌}
use Rattle.turn_disk.specs.Prelude.{Passes}
use Rattle.turn_nbd.specs.Wire.{received}
use Rattle.turn_nbd.proofs.wire.Wire.receive_while.Given as goal

abbrev pub invariant-parts : goal.invariant-parts
invariant-parts g l = record {
  within : l.done ≤ length l.buffer;
  len : length l.buffer ≡ length l.initial.buffer;
  passed : l.self ≡ l.initial.self ++ received (take l.done l.buffer);
  meanwhile : Passes g.M.Meanwhile.passes l.initial.other l.other;
}
