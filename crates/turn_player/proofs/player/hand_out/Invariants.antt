use Rattle.std.proofs.Common.{◌≡◌, ◌++◌, length, map}
use Rattle.turn_step.specs.Prelude.{sent_of}
use Rattle.turn_player.specs.Lives.{Sends}
use Rattle.turn_player.specs.Plays.{said_of}
use Rattle.turn_player.proofs.player.hand_out.Given as goal

abbrev pub invariant-loop-datagram : goal.invariant-loop-datagram
invariant-loop-datagram g l =
    (map said_of l.events.items ≡ map said_of l.fn.events.items ++ map Sends (map sent_of l.yielded)) × (l.count ≡ length l.fn.outgoing.items)
