use Rattle.std.proofs.Common.{◌≡◌, ◌+◌, length}
use Rattle.turn_record.specs.Prelude.{each, entry, snapshot, AreShort}
use Rattle.turn_record.proofs.snapshot_writer.snapshot_size.Given as goal

abbrev pub invariant-loop-kept : goal.invariant-loop-kept
invariant-loop-kept g l = record {
  can_next : (goal.iterator-loop-kept g).can_next l.kept-iterator;
  is_finite : (goal.iterator-loop-kept g).is_finite l.kept-iterator;
  short : AreShort l.kept-iterator;
  size : l.size + length (each (entry l.version) l.kept-iterator) ≡ length (snapshot l.version l.table.moment l.table.contents);
}
