use Rattle.std.proofs.Common.{ap, ◌∙◌, None, subst}
use Rattle.turn_types.specs.Prelude.{AreInRange}
use Rattle.turn_history.proofs.TableAt.{at-nothing}
use Rattle.turn_history.specs.Prelude.{no_contents}
use Rattle.turn_table.specs.Prelude.{entries_of}
use Rattle.turn_table.proofs.Held.{entries_of-empty}
use Rattle.turn_table.proofs.Ready.{holds_empty, ready_of}
use Rattle.turn_table.proofs.table.Table.new.Goals as goal

pub returns : goal.returns
unfolding no_contents
returns g c = λ i. record {
  bounds = c.args.limits;
  moment = c.args.moment;
  contents = record { entries = (ap entries_of c.new.ensures ∙ entries_of-empty) i; reserved = c.new-2.ensures i };
  room = None;
}

pub invariant_of-result : goal.invariant_of-result
unfolding no_contents
invariant_of-result g c = ready_of (returns g c) (subst AreInRange c.bounds-bounds.ensures.value c.bounds-bounds.ensures.range) (at-nothing c.args.limits c.args.moment c.seconds.ensures.range) (holds_empty c.seconds.result)
