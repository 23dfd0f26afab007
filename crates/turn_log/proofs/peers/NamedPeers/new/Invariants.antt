use Rattle.std.proofs.Common.{◌≡◌, ◌⊎◌, ◌≤◌, ◌+◌, length}
use Rattle.turn_codec.specs.Prelude.{values_of, xor_peer_address}
use Rattle.turn_log.proofs.peers.NamedPeers.new.Given as goal

abbrev pub invariant-loop-kind : goal.invariant-loop-kind
invariant-loop-kind l = record {
  few : length l.peers.shown.items ≤ 32;
  full : (length l.peers.shown.items ≡ 32) ⊎ (l.peers.more ≡ 0);
  bound : l.peers.more + length l.kind-iterator ≤ length l.initial.kind-iterator;
  all : length l.peers.shown.items + l.peers.more + length (values_of xor_peer_address l.kind-iterator) ≡ length (values_of xor_peer_address l.initial.kind-iterator);
}
