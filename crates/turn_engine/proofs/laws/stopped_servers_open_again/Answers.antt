use Rattle.turn_engine.proofs.Runs.{stops}
use Rattle.turn_engine.proofs.Stops.{left_alone, left_has}
use Rattle.turn_engine.proofs.laws.stopped_servers_open_again.Goals as goal

pub returns : goal.returns
returns g c = λ s h t server p x image state at call crash_model left same settled.
    left_alone state _ image same settled (left_has _ _ _ image (stops g.D.Disk g.H.AuthHandler g.G.RelayAddressGenerator s h t server p x at call crash_model) left)
