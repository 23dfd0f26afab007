-- Servers that reserve ports, which are those over stores of version 2.
use Rattle.std.specs.Prelude.{◌≡◌, true}
use Rattle.turn_disk.specs.declared.disk.Disk as disks
use Rattle.turn_engine.specs.Prelude.{ServerState}
use Rattle.turn_store.specs.Prelude.{V2, Form, EachImage, IsInVersion}
use Rattle.turn_player.specs.Worlds.{Down, Serving, World}

-- the server reserves ports, its store is of version 2, and so is each image of its disk
pub record ReservesPorts {D H G : Type 0} (disk : disks.Ghosts D) (form : Form) (server : ServerState D H G) : Type 0 where
  pub pairs : server.machine.pairs ≡ true
  pub version : server.store.version ≡ V2
  pub images : EachImage (disk.trace server.store.disk).now (IsInVersion V2 form)

-- a server that reserves ports, or a disk of which each image is of version 2
abbrev pub Reserves : {D H G : Type 0} → disks.Ghosts D → Form → World D H G → Type 0
Reserves disk form (Serving server) = ReservesPorts disk form server
Reserves disk form (Down d h g) = EachImage (disk.trace d).now (IsInVersion V2 form)
