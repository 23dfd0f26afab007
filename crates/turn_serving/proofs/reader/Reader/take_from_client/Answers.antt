use Rattle.std.proofs.Common.{inl, inr, ◌∙◌}
use Rattle.turn_serving.proofs.Visiting.{takes_answered, takes_kept, takes_lost, takes_own}
use Rattle.turn_serving.proofs.reader.Reader.take_from_client.Goals as goal

pub returns-in_default : goal.returns-in_default
returns-in_default g c = λ token before there came. takes_own c.args.from c.args.bytes.now c.args.backlog.now there (c.five_tuple_of.ensures.own.0 c.in_default.is) came

pub returns-then-has_some : goal.returns-then-has_some
returns-then-has_some g c = λ token before there came. takes_kept c.in-Some.ensures.client there came (inl (c.has_some.ensures.some c.if-has_some.true)) c.keep.ensures

pub returns-in-Waits : goal.returns-in-Waits
returns-in-Waits g c = λ token before there came. takes_kept c.in-Some.ensures.client there (c.in-Waits.ensures.1 ∙ came) (inr c.in-Waits.ensures.0) c.keep-in-Waits.ensures

pub returns-in-Sent : goal.returns-in-Sent
returns-in-Sent g c = λ token before there came. takes_answered c.in-Some.ensures.client there came (c.has_some.ensures.none c.if-has_some.false) c.in-Sent.ensures

pub returns-in-Lost : goal.returns-in-Lost
returns-in-Lost g c = λ token before there came. takes_lost c.in-Some.ensures.client there came (c.has_some.ensures.none c.if-has_some.false) c.in-Lost.ensures
