-- What a service makes of a disk.
use Rattle.std.proofs.Common.{ℕ}
use Rattle.turn_cred.specs.declared.handler.AuthHandler as handlers
use Rattle.turn_disk.specs.declared.disk.Disk as disks
use Rattle.turn_engine.specs.Prelude.{ServerState}
use Rattle.turn_ports.specs.declared.generator.RelayAddressGenerator as generators
use Rattle.turn_serving.specs.Starts.{Started}
use Rattle.turn_types.specs.Prelude.{Config}
use Rattle.turn_service.specs.Serving.{Serves, ServesOpened, StartedOver}

pub started_over : {D H G : Type 0} (disk : disks.Ghosts D) (handler : handlers.Ghosts H) (ports : generators.Ghosts G) (opened : D) (config : Config) (users : H) (range : ℕ × ℕ) (server : ServerState D H G) →
    Started disk handler ports opened config users range server → StartedOver disk handler ports opened server
started_over disk handler ports opened config users range server started = record { config = config; users = users; range = range; started = started }

pub serves_opened : {D H G : Type 0} (disk : disks.Ghosts D) (handler : handlers.Ghosts H) (ports : generators.Ghosts G) (IsNew : D → Type 0) (opened last : D) →
    IsNew opened → Serves disk handler ports opened last → ServesOpened disk handler ports IsNew last
serves_opened disk handler ports IsNew opened last is_new served = record { opened = opened; is_new = is_new; serves = served }
