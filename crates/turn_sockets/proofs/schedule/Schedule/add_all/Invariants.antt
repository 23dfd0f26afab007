use Rattle.std.proofs.Common.{◌≡◌, map}
use Rattle.mio.specs.Event.{event_token}
use Rattle.turn_sockets.specs.Schedule.{with_all_ready}
use Rattle.turn_sockets.proofs.schedule.Schedule.add_all.Given as goal

abbrev pub invariant-loop-event : goal.invariant-loop-event
invariant-loop-event g l = l.self ≡ with_all_ready l.fn.self (map (λ e. (event_token e.now).0) l.yielded)
