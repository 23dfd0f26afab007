use Rattle.std.proofs.Common.{arith}
use Rattle.turn_serving.proofs.Visiting.{ends_failed, ends_full, ends_held, ends_nothing, none_taken, one_more_found}
use Rattle.turn_serving.proofs.reader.Reader.visit.Goals as goal

pub loop-read-init : goal.loop-read-init
loop-read-init g c = (none_taken _ _, omega arith)

pub returns-in-Failed : goal.returns-in-Failed
returns-in-Failed g c = ends_failed c.loop-read.invariant.0 c.loop-read.invariant.1 c.in-Failed.is c.take-found.ensures

pub returns-in-Held : goal.returns-in-Held
returns-in-Held g c = ends_held c.loop-read.invariant.0 c.loop-read.invariant.1 c.in-Held.is c.take-found.ensures

pub returns-in-Nothing : goal.returns-in-Nothing
returns-in-Nothing g c = ends_nothing c.loop-read.invariant.0 c.loop-read.invariant.1 c.in-Nothing.is c.take-found.ensures

pub loop-read-preserved : goal.loop-read-preserved
loop-read-preserved g c = (
  one_more_found c.loop-read.invariant.0 c.in-Answered.is c.take-found.ensures,
  let below = c.loop-read-test.true in let most = c.reads-read-end.ensures in omega (arith, below, most),
)

pub returns : goal.returns
returns g c =
    ends_full c.loop-read.invariant.0
    (let ends = c.loop-read-test.false in let most = c.reads-read-end.ensures in let few = c.loop-read.invariant.1 in omega (arith, ends, most, few))
