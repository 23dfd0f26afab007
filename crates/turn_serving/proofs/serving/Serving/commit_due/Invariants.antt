use Rattle.std.proofs.Common.{◌≡◌, false, true}
use Rattle.turn_engine.specs.Prelude.{emptied}
use Rattle.turn_sockets.specs.Moments.{IsMoment}
use Rattle.turn_serving.specs.Events.{Does}
use Rattle.turn_serving.specs.Sending.{port_sockets}
use Rattle.turn_serving.proofs.serving.Serving.commit_due.Given as goal

abbrev pub invariant-loop-commit : goal.invariant-loop-commit
invariant-loop-commit g l = record {
  does : Does g.D.Disk g.H.AuthHandler g.G.RelayAddressGenerator (port_sockets g.G.RelaySockets.has_socket g.G.RelaySockets.bound) (IsMoment (g.T.Time.told l.system)) 0 true l.fn.self l.self;
  done : l.fn.self.server ≡ emptied l.fn.self.server l.fn.self.server.store → l.self.server ≡ emptied l.self.server l.self.server.store;
  runs : l.self.server.store.stopped ≡ false;
  manner : l.self.manner ≡ l.fn.self.manner;
}
