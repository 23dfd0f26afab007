-- Refreshes of 0, and what they do.
use Rattle.std.specs.Prelude.{ℕ, ◌≡◌, List, Contains, Some, true, is_none}
use Rattle.std.specs.FinMap as fin
use Rattle.std.specs.List.{AllByRecursion, list_all}
use Rattle.turn_codec.specs.Prelude.{Content, Encodes}
use Rattle.turn_cred.specs.declared.handler.AuthHandler as handlers
use Rattle.turn_disk.specs.declared.disk.Disk as disks
use Rattle.turn_engine.specs.Prelude.{Advance, Commit, Relay, Serves, ServerCall, Submit, last_of, ServerState}
use Rattle.turn_history.specs.Prelude.{Event, Renews, Contents, FiveTuple}
use Rattle.turn_ports.specs.declared.generator.RelayAddressGenerator as generators
use Rattle.turn_rules.specs.Prelude.{lifetime_of}
use Rattle.turn_step.specs.Prelude.{Arrives, FromClient, FromPeer}
use Rattle.turn_types.specs.Prelude.{refresh}
use Rattle.turn_ending.specs.declared.chosen.Chosen.{Chosen}

-- a message of the method Refresh with a LIFETIME of 0
pub record IsEnd (bytes : List ℕ) : Type 0 where
  pub content : Content
  pub encodes : Encodes bytes content
  pub method : content.method ≡ refresh
  pub lifetime : lifetime_of content ≡ Some 0

-- such a message of one of these five-tuples
abbrev pub IsEndOf : List FiveTuple → Arrives → Type 0
IsEndOf tuples (FromClient f bytes) = Contains tuples f × IsEnd bytes
IsEndOf tuples (FromPeer port from bytes id) = ⊥

-- a call that submits such a message at a moment, or commits
abbrev pub IsEndCall : {D H G : Type 0} → List FiveTuple → ℕ → ServerCall D H G → Type 0
IsEndCall tuples t (Submit moment arrival result after) = (moment ≡ t) × IsEndOf tuples arrival
IsEndCall tuples t (Commit result after) = Unit {0}
IsEndCall tuples t (Relay arrival sent after) = ⊥
IsEndCall tuples t (Advance moment after) = ⊥

-- calls of a server, of which each submits such a message or commits
pub record Ends {D H G : Type 0} (disk : disks.Ghosts D) (handler : handlers.Ghosts H) (ports : generators.Ghosts G) (tuples : List FiveTuple) (moment : ℕ) (old new : ServerState D H G) : Type 0 where
  pub calls : List (ServerCall D H G)
  pub serves : Serves disk handler ports old calls
  pub last : last_of old calls ≡ new
  pub ends : AllByRecursion (IsEndCall tuples moment) calls

-- an event that deletes an allocation of one of these five-tuples
pub record IsDeletion (tuples : List FiveTuple) (e : Event) : Type 0 where
  pub tuple : Contains tuples e.tuple
  pub deletes : e.act ≡ Renews 0

-- none of these has an allocation
abbrev pub are_ended : {A : Type 0} → Contents → List (Chosen A) → Type 0
are_ended c chosen = list_all (λ one. is_none (fin.get c.entries one.five_tuple)) chosen ≡ true
