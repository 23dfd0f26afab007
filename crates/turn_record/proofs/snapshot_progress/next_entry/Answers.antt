use Rattle.std.specs.FinMap as fin
use Rattle.turn_history.specs.Prelude.{IsEntryAt, PortIsFree}
use Rattle.turn_record.specs.Prelude.{entry_at}
use Rattle.turn_record.proofs.Onward.{front_entry, next_of, whole_keeps}
use Rattle.turn_record.proofs.snapshot_progress.next_entry.Goals as goal
use Rattle.turn_table.specs.Prelude.{IsAbove}

pub returns-clause-next : goal.returns-clause-next
returns-clause-next g c =
    let s = c.args.table.now in
    rw c.if_whole.ensures (next_of _ _ (entry_at c.args.version s.bounds s.moment (fin.entries s.contents.entries)) (front_entry _ _ _ _) c.args.bytes.now c.entry_after.result c.entry_after.ensures.gives)

pub returns-clause-entry : goal.returns-clause-entry
returns-clause-entry g c = rw c.if_whole.ensures (whole_keeps (λ x. IsEntryAt c.args.table.now.bounds c.args.table.now.moment x.0 x.1.entry) c.entry_after.result c.entry_after.ensures.entry)

pub returns-clause-above : goal.returns-clause-above
returns-clause-above g c = rw c.if_whole.ensures (whole_keeps (λ x. IsAbove c.args.table.now.contents x.0) c.entry_after.result c.entry_after.ensures.above)

pub returns-clause-free : goal.returns-clause-free
returns-clause-free g c = rw c.if_whole.ensures (whole_keeps (λ x. PortIsFree c.args.table.now.contents x.1.entry.port) c.entry_after.result c.entry_after.ensures.free)
