use Rattle.std.proofs.Common.{◌≡◌, ◌≤◌, map}
use Rattle.turn_engine.specs.Prelude.{now_of}
use Rattle.turn_ending.specs.Ends.{Ends}
use Rattle.turn_ending.specs.contracts.operator.OperatorAuthHandler.TheImpl as operator
use Rattle.turn_ending.proofs.ending.end_all.Given as goal

abbrev pub invariant-loop-one : goal.invariant-loop-one
invariant-loop-one g l = record {
  ends : Ends g.D.Disk operator.ghosts g.G.RelayAddressGenerator (map (λ c. c.five_tuple) l.fn.chosen) l.fn.moment l.fn.server l.server;
  clock : now_of l.server ≤ l.fn.moment;
  same : l.moment ≡ l.fn.moment;
}
