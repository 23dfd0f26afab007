use Rattle.turn_player.specs.Plays.{inputs_of_all, said_of}
use Rattle.std.proofs.Common.{map}
use Rattle.turn_scenario.proofs.Lives.{lives_on}
use Rattle.turn_scenario.proofs.running.Running.play.Goals as goal

pub returns : goal.returns
returns g c = record {
  lives = lives_on _ _ _ c.args.self.now.player c.run.new.self (inputs_of_all c.args.steps.now) (map said_of c.in_ok-events.events.items)
      c.in_ok-events.ensures.config c.in_ok-events.ensures.lives;
}
