-- Whose a relayed port is, and which channel is bound to a peer.
use Rattle.std.proofs.Common.{◌≡◌, ℕ, List, Bool, length, Option, Some, None, true, false, refl, sym, ap, subst, ◌∙◌, nat_le, MatchOption, IsSomeAnd}
use Rattle.std.proofs.lemmas.Option.{same_Some}
use Rattle.std.specs.FinMap as fin
use Rattle.turn_history.specs.Prelude.{Endpoint, FiveTuple, PortsApart, PeersApart, Contents, Entry}
use Rattle.turn_history.specs.declared.channel.Channel.{Channel}
use Rattle.turn_table.specs.Prelude.{IsChannelTo}
use Rattle.turn_relay.specs.FromClient.{is_permitted}
use Rattle.turn_relay.specs.FromPeer.{ClientData, HasRelayedPort, IsChannelFor, SendsToClient, relayed, size_for_client}
use Rattle.turn_relay.specs.Udp.{max_payload}

pub channel_for : (e : Entry) (peer : Endpoint) (channel : Option ℕ) → MatchOption channel ((n : ℕ) → ¬ IsChannelTo e n peer) (λ n. IsChannelTo e n peer) → IsChannelFor e peer channel
channel_for e peer None none = none
channel_for e peer (Some n) bound = bound

-- a payload is too long for the client's datagram, or isn't
module _ (f : FiveTuple) (channel : Option ℕ) (peer : Endpoint) (payload : List ℕ) (b : Bool) (is : b ≡ nat_le (size_for_client channel (length payload)) max_payload) where
  pub too_long : b ≡ false → None ≡ relayed f channel peer payload
  too_long off = let e : nat_le (size_for_client channel (length payload)) max_payload ≡ false = sym is ∙ off in rw e refl

  pub not_too_long : b ≡ true → Some (record { five_tuple = f; channel = channel; peer = peer; payload = payload }) ≡ relayed f channel peer payload
  not_too_long on = let e : nat_le (size_for_client channel (length payload)) max_payload ≡ true = sym is ∙ on in rw e refl

-- two entries of a table that have one port are one
one_holder : (c : Contents) (port : ℕ) (f g : FiveTuple) (e x : Entry) → PortsApart c → HasRelayedPort c port f e → HasRelayedPort c port g x → (f ≡ g) × (e ≡ x)
one_holder c port f g e x apart here there =
    let same : f ≡ g = apart f g e x here.0 there.0 (here.1 ∙ sym there.1) in
    (same, same_Some e x (sym here.0 ∙ ap (fin.get c.entries) same ∙ there.0))

-- where f has its entry in both tables, a datagram at its port sends the same in both
pub same_holder : (c d : Contents) (f : FiveTuple) (e : Entry) (peer : Endpoint) (payload : List ℕ) (o : Option ClientData)
    → PortsApart c → fin.get c.entries f ≡ Some e → fin.get d.entries f ≡ Some e → SendsToClient c e.port peer payload o → SendsToClient d e.port peer payload o
same_holder c d f e peer payload o apart here there (SendsToClient.NoAllocation free none) = absurd (free f e here refl)
same_holder c d f e peer payload o apart here there (SendsToClient.NoPermission g x at denied none) =
    let one = one_holder c e.port f g e x apart (here, refl) at in
    SendsToClient.NoPermission g x (ap (fin.get d.entries) (sym one.0) ∙ there ∙ ap Some one.1, at.1) denied none
same_holder c d f e peer payload o apart here there (SendsToClient.Relayed g x channel at permitted bound is) =
    let one = one_holder c e.port f g e x apart (here, refl) at in
    SendsToClient.Relayed g x channel (ap (fin.get d.entries) (sym one.0) ∙ there ∙ ap Some one.1, at.1) permitted bound is

one_channel : (c : Contents) (f : FiveTuple) (e : Entry) (peer : Endpoint) (m n : Option ℕ) → PeersApart c → fin.get c.entries f ≡ Some e → IsChannelFor e peer m → IsChannelFor e peer n → m ≡ n
one_channel c f e peer None None apart is first second = refl
one_channel c f e peer None (Some n) apart is first second = absurd (first n second)
one_channel c f e peer (Some m) None apart is first second = absurd (second m first)
one_channel c f e peer (Some m) (Some n) apart is first second = ap Some (by_values (fin.get e.channels m) (fin.get e.channels n) refl refl first second)
  where
    by_values : (x y : Option Channel) → fin.get e.channels m ≡ x → fin.get e.channels n ≡ y → IsSomeAnd x (λ z. z.peer ≡ peer) → IsSomeAnd y (λ z. z.peer ≡ peer) → m ≡ n
    by_values None y at-m at-n one other = absurd one
    by_values (Some x) None at-m at-n one other = absurd other
    by_values (Some x) (Some y) at-m at-n one other = apart f e is m n x y at-m at-n (one ∙ sym other)

module _ (c : Contents) (port : ℕ) (peer : Endpoint) (payload : List ℕ) (o p : Option ClientData) (ports : PortsApart c) (peers : PeersApart c) where
  pub one_way : SendsToClient c port peer payload o → SendsToClient c port peer payload p → o ≡ p
  one_way (SendsToClient.NoAllocation free none) (SendsToClient.NoAllocation free-2 none-2) = none ∙ sym none-2
  one_way (SendsToClient.NoAllocation free none) (SendsToClient.NoPermission g x at denied none-2) = none ∙ sym none-2
  one_way (SendsToClient.NoAllocation free none) (SendsToClient.Relayed g x channel at permitted bound is) = absurd (free g x at.0 at.1)
  one_way (SendsToClient.NoPermission f e at denied none) (SendsToClient.NoAllocation free none-2) = none ∙ sym none-2
  one_way (SendsToClient.NoPermission f e at denied none) (SendsToClient.NoPermission g x at-2 denied-2 none-2) = none ∙ sym none-2
  one_way (SendsToClient.NoPermission f e at denied none) (SendsToClient.Relayed g x channel at-2 permitted bound is) =
      let one = one_holder c port f g e x ports at at-2 in
      let no : false ≡ true = sym denied ∙ ap (λ y. is_permitted y peer) one.1 ∙ permitted in cc
  one_way (SendsToClient.Relayed f e channel at permitted bound is) (SendsToClient.NoAllocation free none) = absurd (free f e at.0 at.1)
  one_way (SendsToClient.Relayed f e channel at permitted bound is) (SendsToClient.NoPermission g x at-2 denied none) =
      let one = one_holder c port f g e x ports at at-2 in
      let no : true ≡ false = sym permitted ∙ ap (λ y. is_permitted y peer) one.1 ∙ denied in cc
  one_way (SendsToClient.Relayed f e channel at permitted bound is) (SendsToClient.Relayed g x channel-2 at-2 permitted-2 bound-2 is-2) =
      let one = one_holder c port f g e x ports at at-2 in
      let same = one_channel c f e peer channel channel-2 peers at.0 bound (subst (λ y. IsChannelFor y peer channel-2) (sym one.1) bound-2) in
      is ∙ ap (λ y. relayed y channel peer payload) one.0 ∙ ap (λ n. relayed g n peer payload) same ∙ sym is-2
