use Rattle.std.proofs.Common.{◌≡◌, ◌++◌, map, filter}
use Rattle.std.specs.FinMap as fin
use Rattle.turn_ending.specs.Chosen.{is_chosen, shown, shown_entry}
use Rattle.turn_ending.proofs.chosen.chosen_of.Given as goal

-- those that were chosen, and those of the entries to come, are those of all entries
abbrev pub invariant-loop-five_tuple : goal.invariant-loop-five_tuple
invariant-loop-five_tuple g l = record {
  can_next : (goal.iterator-loop-five_tuple g).can_next l.five_tuple-iterator;
  is_finite : (goal.iterator-loop-five_tuple g).is_finite l.five_tuple-iterator;
  same : map shown l.chosen.items ++ map shown_entry (filter (is_chosen l.fn.whose l.fn.moment) l.five_tuple-iterator)
      ≡ map shown_entry (filter (is_chosen l.fn.whose l.fn.moment) (fin.entries l.fn.table.contents.entries));
  asks : (l.whose ≡ l.fn.whose) × (l.moment ≡ l.fn.moment);
}
