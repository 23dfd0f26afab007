use Rattle.turn_table.proofs.Ends.{above_all_reserved}
use Rattle.turn_table.proofs.laws.above_the_last_reserved.Goals as goal

pub returns : goal.returns
returns c = above_all_reserved
