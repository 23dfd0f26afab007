use Rattle.turn_ending.proofs.Calls.{committed, in_row, only, submitted}
use Rattle.turn_ending.proofs.ending.submit.Goals as goal

pub returns-in_err-submit-clause-ends : goal.returns-in_err-submit-clause-ends
returns-in_err-submit-clause-ends g c = submitted c.submit.ensures.call (only c.args.five_tuple, c.is_end.ensures c.if-not-is_end.false)

pub returns-in_err-commit-clause-ends : goal.returns-in_err-commit-clause-ends
returns-in_err-commit-clause-ends g c = in_row (submitted c.submit.ensures.call (only c.args.five_tuple, c.is_end.ensures c.if-not-is_end.false)) (committed c.commit.ensures.call)

pub returns-clause-ends : goal.returns-clause-ends
returns-clause-ends g c = in_row (submitted c.submit.ensures.call (only c.args.five_tuple, c.is_end.ensures c.if-not-is_end.false)) (committed c.commit.ensures.call)
