-- Data, which is what arrives and is no request, and whose it is; and the requests that need the table.
use Rattle.std.specs.Prelude.{◌≡◌, ℕ, true, Some, option_map, List}
use Rattle.std.specs.FinMap as fin
use Rattle.turn_history.specs.Prelude.{FiveTuple, Contents, Entry}
use Rattle.turn_codec.specs.Prelude.{Content, Encodes}
use Rattle.turn_relay.specs.FromClient.{SendsToPeer}
use Rattle.turn_relay.specs.Views.{peer_data}
use Rattle.turn_rules.specs.Prelude.{credential_outcome, depends_on_table, is_request}
use Rattle.turn_step.specs.declared.client.ClientDatagram.{ClientDatagram}
use Rattle.turn_step.specs.declared.client.ClientDatagram.TheVariants.{Request, Data}
use Rattle.turn_step.specs.Answer.{Setting}
use Rattle.turn_step.specs.Outcome.{Arrives}
use Rattle.turn_step.specs.Outcome.Arrives.{FromClient, FromPeer}

-- a client's datagram that is a request
abbrev pub IsRequestOf : Arrives → Type 0
IsRequestOf (FromClient f bytes) = (m : Content) × Encodes bytes m × (is_request m.class ≡ true)
IsRequestOf (FromPeer port from bytes id) = ⊥

-- a client's datagram is a request whose answer may depend on the table, at the moment t
abbrev pub NeedsTable : Setting → ℕ → Arrives → Type 0
NeedsTable s t (FromClient f bytes) =
    (m : Content) × Encodes bytes m × (depends_on_table (record { bytes = bytes; content = m }) (credential_outcome s.config s.keys f.client t (record { bytes = bytes; content = m })) ≡ true)
NeedsTable s t (FromPeer port from bytes id) = ⊥

-- the arrival is a client's, or a peer's at the relayed port of its allocation
abbrev pub IsOwner : Contents → Arrives → FiveTuple → Type 0
IsOwner c (FromClient g bytes) f = g ≡ f
IsOwner c (FromPeer port from bytes id) f = (e : Entry) × (fin.get c.entries f ≡ Some e) × (e.port ≡ port)

-- a client's bytes are read as the request that they encode, or, where they encode none, as what they send to a peer
abbrev pub IsReadAs : Contents → FiveTuple → List ℕ → ClientDatagram → Type 0
IsReadAs c f bytes (Request d) = (d.bytes ≡ bytes) × Encodes bytes d.content × (is_request d.content.class ≡ true)
IsReadAs c f bytes (Data payload) = (¬ IsRequestOf (FromClient f bytes)) × SendsToPeer c f bytes (option_map peer_data payload)
