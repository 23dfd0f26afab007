-- What is sent is sent under permissions and over channels.
use Rattle.std.proofs.Common.{◌≡◌, ℕ, ◌≤◌, Bool, true, false, cond, List, length, Option, Some, None, refl, sym, subst, ◌∙◌, IsSomeAnd, nat_le, option_and_then}
use Rattle.std.proofs.lemmas.Option.{same_Some}
use Rattle.std.specs.FinMap as fin
use Rattle.turn_history.specs.Prelude.{Endpoint, FiveTuple, IsFitting, History, clock, IsPermitted, IsBound, Bounds, Entry, table}
use Rattle.turn_history.specs.declared.channel.Channel.{Channel}
use Rattle.turn_history.proofs.Channels.{has-bound, bound-has}
use Rattle.turn_history.proofs.Live.{is_entry, with_entry, of_entry}
use Rattle.turn_history.proofs.Permissions.{has-permitted}
use Rattle.turn_codec.specs.AttributeTypes as types
use Rattle.turn_codec.specs.Prelude.{Content, Datagram, has_unknown, seen_value}
use Rattle.turn_mac.specs.Fingerprint.{has_wrong_fingerprint}
use Rattle.turn_table.specs.Prelude.{IsChannelTo}
use Rattle.turn_relay.specs.FromClient.{PeerData, is_permitted, peer_of, sent, sent_by_channel_data, sent_by_indication, sent_by_message, sent_to_permitted}
use Rattle.turn_relay.specs.FromPeer.{ClientData, IsChannelFor, SendsToClient, size_for_client}
use Rattle.turn_relay.specs.Laws.{HasPort, IsRelayed, IsSentBy, IsSentOver, IsTheChannel}
use Rattle.turn_relay.specs.Udp.{max_payload}

-- ---- What led to a value

not_dropped : {A : Type 0} (b : Bool) (x : Option A) (y : A) → Some y ≡ cond b None x → Some y ≡ x
not_dropped true x y is = cc
not_dropped false x y is = is

passed : {A : Type 0} (b : Bool) (x : Option A) (y : A) → Some y ≡ cond b x None → (b ≡ true) × (Some y ≡ x)
passed true x y is = (refl, is)
passed false x y is = cc

from_some : {A B : Type 0} (g : A → Option B) (o : Option A) (y : B) → Some y ≡ option_and_then g o → (x : A) × (o ≡ Some x) × (Some y ≡ g x)
from_some g None y is = cc
from_some g (Some x) y is = (x, refl, is)

-- ---- Entries of a history

module _ (b : Bounds) (h : History) (t : ℕ) (f : FiveTuple) (e : Entry) (fits : IsFitting b h) (is : fin.get (table h t).entries f ≡ Some e) where
  pub has_port : HasPort h f e.port
  has_port = subst (λ o. IsSomeAnd o (λ a. a.port ≡ e.port)) (sym (is_entry h t f e is).made) refl

  pub permitted : (peer : Endpoint) → is_permitted e peer ≡ true → IsPermitted h t f peer.ip
  permitted peer test = has-permitted b h t f peer.ip fits (of_entry _ (fin.get (table h t).entries f) e is test)

  pub bound : (number : ℕ) (peer : Endpoint) → clock h ≤ t → IsChannelTo e number peer → IsBound h t f number peer
  bound number peer now to = has-bound b h t fits now f number peer (of_entry _ (fin.get (table h t).entries f) e is to)

  pub the_channel : (peer : Endpoint) (channel : Option ℕ) → clock h ≤ t → IsChannelFor e peer channel → IsTheChannel h t f peer channel
  the_channel peer None now none = λ number has.
      let w = with_entry (λ x. IsChannelTo x number peer) (fin.get (table h t).entries f) (bound-has b h t fits now f number peer has) in
      none number (subst (λ x. IsChannelTo x number peer) (sym (same_Some e w.0 (sym is ∙ w.1))) w.2)
  the_channel peer (Some number) now to = bound number peer now to

-- ---- Clients' datagrams

sent_is : (e : Entry) (peer : Endpoint) (payload : List ℕ) (d : PeerData) → Some d ≡ sent e peer payload → record { port = e.port; peer = peer; payload = payload } ≡ d
sent_is e peer payload d is =
    let out : PeerData = record { port = e.port; peer = peer; payload = payload } in
    sym (same_Some d out (passed (nat_le (length payload) max_payload) (Some out) d is).1)

module _ (b : Bounds) (h : History) (t : ℕ) (f : FiveTuple) (fits : IsFitting b h) where
  by_parts : (m : Content) (e : Entry) (peer : Endpoint) (payload : List ℕ) (d : PeerData) → fin.get (table h t).entries f ≡ Some e → peer_of m ≡ Some peer → seen_value m types.payload ≡ Some payload
      → is_permitted e peer ≡ true → Some d ≡ sent e peer payload → IsSentBy h t f m d
  by_parts m e peer payload d at peer-is payload-is test is =
      subst (IsSentBy h t f m) (sent_is e peer payload d is) (record {
        port = has_port b h t f e fits at;
        peer = peer-is;
        permitted = permitted b h t f e fits at peer test;
        payload = payload-is;
      })

  pub sent_by : (dg : Datagram) (d : PeerData) → Some d ≡ sent_by_message (fin.get (table h t).entries f) dg → IsSentBy h t f dg.content d
  unfolding sent_by_message
  sent_by dg d is =
      let m = dg.content in
      let entry = fin.get (table h t).entries f in
      let last = sent_by_indication entry m in
      let third : Option PeerData = cond (has_unknown m) None last in
      let second : Option PeerData = cond (has_wrong_fingerprint dg) None third in
      let indication = not_dropped (has_unknown m) last d (not_dropped (has_wrong_fingerprint dg) third d (not_dropped _ second d is)) in
      let e = from_some _ entry d indication in
      let peer = from_some _ (peer_of m) d e.2 in
      let payload = from_some (sent_to_permitted e.0 peer.0) (seen_value m types.payload) d peer.2 in
      let test = passed (is_permitted e.0 peer.0) (sent e.0 peer.0 payload.0) d payload.2 in
      by_parts m e.0 peer.0 payload.0 d e.1 peer.1 payload.1 test.0 test.1

  over_parts : (number : ℕ) (payload : List ℕ) (e : Entry) (c : Channel) (d : PeerData) → clock h ≤ t → fin.get (table h t).entries f ≡ Some e → fin.get e.channels number ≡ Some c
      → Some d ≡ sent e c.peer payload → IsSentOver h t f number payload d
  over_parts number payload e c d now at channel-is is =
      subst (IsSentOver h t f number payload) (sent_is e c.peer payload d is) (record {
        port = has_port b h t f e fits at;
        bound = bound b h t f e fits at number c.peer now (subst (λ o. IsSomeAnd o (λ x. x.peer ≡ c.peer)) (sym channel-is) refl);
        same = refl;
      })

  pub sent_over : (number : ℕ) (payload : List ℕ) (d : PeerData) → clock h ≤ t → Some d ≡ sent_by_channel_data (fin.get (table h t).entries f) number payload → IsSentOver h t f number payload d
  unfolding sent_by_channel_data
  sent_over number payload d now is =
      let e = from_some _ (fin.get (table h t).entries f) d is in
      let channel = from_some (λ (c : Channel). sent e.0 c.peer payload) (fin.get e.0.channels number) d e.2 in
      over_parts number payload e.0 channel.0 d now e.1 channel.1 channel.2

-- ---- Peers' datagrams

module _ (b : Bounds) (h : History) (t port : ℕ) (peer : Endpoint) (payload : List ℕ) (d : ClientData) (fits : IsFitting b h) (now : clock h ≤ t) where
  pub relayed_by : SendsToClient (table h t) port peer payload (Some d) → IsRelayed h t port peer payload d
  relayed_by (SendsToClient.NoAllocation free is) = cc
  relayed_by (SendsToClient.NoPermission f e at denied is) = cc
  relayed_by (SendsToClient.Relayed f e channel at test to is) =
      let out : ClientData = record { five_tuple = f; channel = channel; peer = peer; payload = payload } in
      let same : out ≡ d = sym (same_Some d out (passed (nat_le (size_for_client channel (length payload)) max_payload) (Some out) d is).1) in
      subst (IsRelayed h t port peer payload) same (record {
        at = subst (HasPort h f) at.1 (has_port b h t f e fits at.0);
        permitted = permitted b h t f e fits at.0 peer test;
        channel = the_channel b h t f e fits at.0 peer channel now to;
        from = refl;
        same = refl;
      })
