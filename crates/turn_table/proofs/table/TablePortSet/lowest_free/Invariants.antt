use Rattle.std.proofs.Common.{Bool, ℕ, ◌≤◌, ◌<◌, ◌-◌, ◌^◌}
use Rattle.turn_history.specs.Prelude.{is_taken}
use Rattle.turn_ports.specs.Ports.{IsFree}
use Rattle.turn_table.proofs.table.TablePortSet.lowest_free.Given as goal

-- no port below the one that is looked at is free
pub record IsBelow (first last : ℕ) (taken : ℕ → Bool) (even : Bool) (from : ℕ) : Type 0 where
  pub start : first ≤ from
  pub below : from < 2 ^ 16
  pub none : (port : ℕ) → IsFree (first, last) taken even port → from ≤ port

abbrev pub invariant-loop-port : goal.invariant-loop-port
invariant-loop-port g l = IsBelow l.first l.last (is_taken l.self.contents) l.even l.from

abbrev pub decreases-loop-port : goal.decreases-loop-port
decreases-loop-port g l = 2 ^ 16 - l.from
