-- The ports that are held, call after call.
use Rattle.std.proofs.Common.{List, [], ◌∷◌, Ok, Err, None, sym, ap, subst}
use Rattle.turn_cred.specs.declared.handler.AuthHandler as handlers
use Rattle.turn_disk.specs.declared.disk.Disk as disks
use Rattle.turn_ports.specs.declared.generator.RelayAddressGenerator as generators
use Rattle.turn_step.specs.Prelude.{HoldsPorts, MachineState}
use Rattle.turn_engine.specs.Prelude.{Advance, Commit, IsCall, Relay, Serves, ServerCall, Submit, after_of, last_of, ServerState}

module _ {D H G : Type 0} (disk : disks.Ghosts D) (handler : handlers.Ghosts H) (ports : generators.Ghosts G) where
  -- a commit leaves the machine as it is, and so does an arrival that is answered beside what is staged
  held_by : (old : ServerState D H G) (x : ServerCall D H G) → IsCall disk handler ports old x → HoldsPorts ports.holds old.machine None → HoldsPorts ports.holds (after_of x).machine None
  held_by old (Submit moment a result new) call = call.held
  held_by old (Commit (Ok outs) new) call = subst (λ (m : MachineState H G). HoldsPorts ports.holds m None) (sym (ap (λ s. s.machine) call.ok))
  held_by old (Commit (Err fault) new) call = subst (λ (m : MachineState H G). HoldsPorts ports.holds m None) (sym (ap (λ s. s.machine) call.err))
  held_by old (Advance moment new) call = call.held
  held_by old (Relay a sent new) call = subst (λ (m : MachineState H G). HoldsPorts ports.holds m None) (sym (ap (λ s. s.machine) call.2))

  pub stay_held : (server : ServerState D H G) (steps : List (ServerCall D H G)) → Serves disk handler ports server steps → HoldsPorts ports.holds server.machine None
      → HoldsPorts ports.holds (last_of server steps).machine None
  stay_held server [] serves held = held
  stay_held server (x ∷ xs) serves held = stay_held (after_of x) xs serves.1 (held_by server x serves.0 held)
