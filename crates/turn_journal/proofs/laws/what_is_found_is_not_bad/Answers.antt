use Rattle.turn_journal.proofs.Once.{found_is_good}
use Rattle.turn_journal.proofs.laws.what_is_found_is_not_bad.Goals as goal

pub returns : goal.returns
returns c = found_is_good
