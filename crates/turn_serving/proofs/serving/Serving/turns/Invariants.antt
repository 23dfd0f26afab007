use Rattle.std.proofs.Common.{◌≡◌, ◌≤◌, false, true}
use Rattle.turn_engine.specs.Prelude.{emptied, now_of}
use Rattle.turn_sockets.specs.Moments.{IsMoment}
use Rattle.turn_serving.specs.Events.{Does}
use Rattle.turn_serving.specs.Sending.{port_sockets}
use Rattle.turn_serving.proofs.serving.Serving.turns.Given as goal

abbrev pub invariant-loop-turned : goal.invariant-loop-turned
invariant-loop-turned g l = record {
  does : Does g.D.Disk g.H.AuthHandler g.G.RelayAddressGenerator (port_sockets g.G.RelaySockets.has_socket g.G.RelaySockets.bound) (IsMoment (g.T.Time.told l.system)) l.turned true l.fn.self l.self;
  none : l.turned ≡ 0 → l.self ≡ l.fn.self;
  current : 1 ≤ l.turned → IsMoment (g.T.Time.told l.system) (now_of l.fn.self.server) (now_of l.self.server);
  done : 1 ≤ l.turned → l.self.server ≡ emptied l.self.server l.self.server.store;
  runs : 1 ≤ l.turned → l.self.server.store.stopped ≡ false;
}
