use Rattle.std.proofs.Common.{◌≡◌, ◌&&◌, true, nat_eq, not, refl, sym}
use Rattle.std.proofs.lemmas.Bool.{and_from, and_parts, eq-eqb, eqb-true}
use Rattle.turn_types.specs.declared.address.Endpoint.{Endpoint}
use Rattle.turn_sockets.specs.Own.{come_from, is_bound, is_relay_port, is_told, sent_to}
use Rattle.turn_sockets.specs.declared.own.OwnAddresses.{OwnAddresses}
use Rattle.turn_sockets.proofs.laws.relay_ports_are_one_address.Goals as goal

there : (own : OwnAddresses) (peer : Endpoint) → is_told own peer ≡ true → come_from own (sent_to own peer) ≡ peer
there own peer told =
    let parts = and_parts (nat_eq peer.ip own.relay) (is_relay_port own peer.port && not (nat_eq own.bound 0)) told in
    let bound : is_bound own (record { ip = own.bound; port = peer.port }) ≡ true = and_from _ _ (eq-eqb own.bound own.bound refl) parts.1 in
    let same = sym (eqb-true peer.ip own.relay parts.0) in
    rw (told, bound) (λ i. record { ip = same i; port = peer.port })

back : (own : OwnAddresses) (from : Endpoint) → is_bound own from ≡ true → sent_to own (come_from own from) ≡ from
back own from bound =
    let parts = and_parts (nat_eq from.ip own.bound) (is_relay_port own from.port && not (nat_eq own.bound 0)) bound in
    let told : is_told own (record { ip = own.relay; port = from.port }) ≡ true = and_from _ _ (eq-eqb own.relay own.relay refl) parts.1 in
    let same = sym (eqb-true from.ip own.bound parts.0) in
    rw (bound, told) (λ i. record { ip = same i; port = from.port })

pub returns : goal.returns
returns c = record { there = there; back = back }
