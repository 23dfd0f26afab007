use Rattle.std.proofs.Common.{◌≡◌, ◌≤◌, true}
use Rattle.turn_engine.specs.Prelude.{now_of}
use Rattle.turn_serving.specs.Events.{Does}
use Rattle.turn_serving.specs.Sending.{port_sockets}
use Rattle.turn_serving.specs.Turns.{At}
use Rattle.turn_serving.proofs.serving.Serving.submit_waiting.Given as goal

abbrev pub invariant-loop-count : goal.invariant-loop-count
invariant-loop-count g l = record {
  does : Does g.D.Disk g.H.AuthHandler g.G.RelayAddressGenerator (port_sockets g.G.RelaySockets.has_socket g.G.RelaySockets.bound) (At l.moment) 0 true l.fn.self l.self;
  in_time : now_of l.self.server ≤ l.moment;
  store : l.self.server.store ≡ l.fn.self.server.store;
  manner : l.self.manner ≡ l.fn.self.manner;
}
