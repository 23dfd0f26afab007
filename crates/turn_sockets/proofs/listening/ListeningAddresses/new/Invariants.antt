use Rattle.std.proofs.Common.{◌≡◌, ◌≤◌, ◌∷◌, length, take}
use Rattle.turn_sockets.specs.Own.{AreListened}
use Rattle.turn_sockets.proofs.listening.ListeningAddresses.new.Given as goal

-- the addresses so far, each once
abbrev pub invariant-loop-address : goal.invariant-loop-address
invariant-loop-address l = record {
  known : l.address-index ≤ length l.others;
  added : l.all ≡ l.fn.first ∷ take l.address-index l.others;
  once : AreListened l.all;
}
