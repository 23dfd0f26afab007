-- What contracts see of a server.
use Rattle.std.specs.Prelude.{◌≡◌, ◌≤◌, ℕ, Bool, true, false, List, [], ◌∷◌}
use Rattle.turn_record.specs.Prelude.{Holds}
use Rattle.turn_store.specs.Prelude.{Version, V1, V2, StoreState}
use Rattle.turn_step.specs.Prelude.{Sent, MachineState}
use Rattle.turn_table.specs.Prelude.{State}
use Rattle.turn_types.specs.declared.address.FiveTuple.{FiveTuple}
use Rattle.turn_types.specs.declared.limits.Bounds.{Bounds}

-- The store and the machine, and what is staged since the last commit: the payload of the acts, how many acts there are, and of
-- which five-tuples, the datagrams, and how many arrivals were taken, from which moment on.
pub record ServerState (D H G : Type 0) : Type 0 where
  pub store : StoreState D
  pub machine : MachineState H G
  -- a count in one byte, and the act entries that are staged
  pub payload : List ℕ
  -- how many acts are staged
  pub acts : ℕ
  -- the five-tuples of these acts, in their order
  pub tuples : List FiveTuple
  -- the datagrams that the next commit hands out
  pub outs : List Sent
  -- since the last commit
  pub arrivals : ℕ
  -- the moment of the first of these arrivals; where there is none it says nothing
  pub since : ℕ

-- the moment of a server's table, in seconds, which is its clock
abbrev pub now_of : {D H G : Type 0} → ServerState D H G → ℕ
now_of s = s.machine.table.moment

-- the limits of a server's configuration
abbrev pub limits_of : {D H G : Type 0} → ServerState D H G → Bounds
limits_of s = s.machine.config.limits

-- the server with nothing staged, over this store
abbrev pub emptied : {D H G : Type 0} → ServerState D H G → StoreState D → ServerState D H G
emptied s store = record { store = store; machine = s.machine; payload = 0 ∷ []; acts = 0; tuples = []; outs = []; arrivals = 0; since = s.since }

-- whether a server over a store of this version reserves ports
abbrev pub has_pairs : Version → Bool
has_pairs V1 = false
has_pairs V2 = true

-- What a server keeps in any state: the store, the batch and the table have the limits of the configuration, a batch has no
-- more arrivals than the limits allow and no more acts than arrivals, the batch is of the store's version, ports are reserved
-- where that version holds them, and it can hold the table.
pub record IsSound (b store batch : Bounds) (version staged : Version) (acts arrivals : ℕ) (pairs : Bool) (table : State) : Type 0 where
  pub store_is : store ≡ b
  pub batch_is : batch ≡ b
  pub table_is : table.bounds ≡ b
  pub few : acts ≤ arrivals
  pub capped : arrivals ≤ b.acts
  pub same_version : staged ≡ version
  pub pairs_is : pairs ≡ has_pairs version
  pub holds : Holds version table.contents

-- nothing is staged
pub record IsEmpty (payload : List ℕ) (tuples : List FiveTuple) (outs : List Sent) : Type 0 where
  pub payload_is : payload ≡ 0 ∷ []
  pub tuples_are : tuples ≡ []
  pub outs_are : outs ≡ []
