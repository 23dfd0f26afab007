use Rattle.std.proofs.Common.{◌≡◌, ◌+◌}
use Rattle.std.specs.FinMap as fin
use Rattle.turn_history.specs.Prelude.{is_taken, PortsApart, ReservedApart, purged}
use Rattle.turn_step.proofs.purge.purge.Given as goal

abbrev pub decreases-loop-port : goal.decreases-loop-port
decreases-loop-port g l = fin.len l.table.contents.entries + fin.len l.table.contents.reserved

abbrev pub invariant-loop-port : goal.invariant-loop-port
invariant-loop-port g l = record {
  moment : l.table.moment ≡ l.initial.table.moment;
  bounds : l.table.bounds ≡ l.initial.table.bounds;
  contents : purged l.moment l.table.contents ≡ purged l.moment l.initial.table.contents;
  range : g.G.RelayAddressGenerator.range l.ports ≡ g.G.RelayAddressGenerator.range l.initial.ports;
  failures : g.G.RelayAddressGenerator.failures l.ports ≡ g.G.RelayAddressGenerator.failures l.initial.ports;
  held : PortsApart l.initial.table.contents → ReservedApart l.initial.table.contents → g.G.RelayAddressGenerator.holds l.initial.ports (is_taken l.initial.table.contents)
      → PortsApart l.table.contents × ReservedApart l.table.contents × g.G.RelayAddressGenerator.holds l.ports (is_taken l.table.contents);
}
