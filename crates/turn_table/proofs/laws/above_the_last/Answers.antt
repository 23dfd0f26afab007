use Rattle.turn_table.proofs.Ends.{above_all}
use Rattle.turn_table.proofs.laws.above_the_last.Goals as goal

pub returns : goal.returns
returns c = above_all
