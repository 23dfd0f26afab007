use Rattle.turn_player.specs.Held.{world_of}
use Rattle.turn_player.specs.Plays as plays
use Rattle.turn_player.proofs.Plays.{crashed, noted, plays_commit, reopens_at, step_is}
use Rattle.turn_player.proofs.player.play.Goals as goal
use Rattle.turn_player.proofs.player.play.Goals.{in-Arrive, in-Crash, in-Reopen, in-Fail, in-Stop}

pub returns-in-Commit : goal.returns-in-Commit
returns-in-Commit g c = plays_commit _ _ _ c.commit.result world_of _ _ _ _ _ c.in-Commit.is c.commit.ensures

pub returns : goal.returns
returns g c = λ s same. elim c.match-step.branch [
  | in-Arrive w ↦ noted _ _ _ s world_of _ _ _ _ _ _ w.held-is c.in_ok-note.ensures (step_is _ _ _ s _ _ _ _ _ w.in-Arrive.is (plays.arrives (w.arrive.ensures s)))
  | in-Crash w ↦ noted _ _ _ s world_of _ _ _ _ _ _ w.held-is c.in_ok-note.ensures
      (step_is _ _ _ s _ _ _ _ _ w.in-Crash.is
      (crashed _ _ _ s _ _ _ _ _ _ _ _ w.close-closed.ensures.disk w.close-closed.ensures.handler w.close-closed.ensures.ports w.crash.ensures.crash_model w.crash.ensures.left w.crash.ensures.image (w.open-held.ensures.call s same) w.open-held.ensures.carried))
  | in-Reopen w ↦ noted _ _ _ s world_of _ _ _ _ _ _ w.held-is c.in_ok-note.ensures
      (step_is _ _ _ s _ _ _ _ _ w.in-Reopen.is
      (reopens_at _ _ _ s _ _ _ _ _ _ _ w.close.ensures.disk w.close.ensures.handler w.close.ensures.ports (w.open-held-in-Reopen.ensures.call s same) w.open-held-in-Reopen.ensures.carried))
  | in-Fail w ↦ noted _ _ _ s world_of _ _ _ _ _ _ w.held-is c.in_ok-note.ensures (step_is _ _ _ s _ _ _ _ _ w.in-Fail.is plays.fails)
  | in-Stop w ↦ noted _ _ _ s world_of _ _ _ _ _ _ w.held-is c.in_ok-note.ensures (step_is _ _ _ s _ _ _ _ _ w.in-Stop.is plays.stops)
]
