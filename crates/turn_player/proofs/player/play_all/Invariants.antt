use Rattle.std.proofs.Common.{◌≡◌, map, take}
use Rattle.turn_step.specs.Prelude.{Setting}
use Rattle.turn_player.specs.Held.{Adds, world_of}
use Rattle.turn_player.specs.Plays.{PlaysAll, said_of}
use Rattle.turn_player.proofs.player.play_all.Given as goal

abbrev pub invariant-loop-step : goal.invariant-loop-step
invariant-loop-step g l =
    (s : Setting) → s.config ≡ l.fn.config → Adds (map said_of l.fn.events.items) (map said_of l.events.items)
    (λ said. PlaysAll g.D.Disk g.H.AuthHandler g.G.RelayAddressGenerator s (world_of l.fn.held) (take l.step-index l.steps) said (world_of l.held))
