use Rattle.turn_player.proofs.Repeats.{first_again, later_again}
use Rattle.turn_player.proofs.laws.repeats_get_the_same.Goals as goal

pub returns-clause-first : goal.returns-clause-first
returns-clause-first c = first_again

pub returns-clause-later : goal.returns-clause-later
returns-clause-later c = later_again
