use Rattle.std.proofs.Common.{◌≡◌, ◌∷◌, List, length, subst, sym, ap, ◌∙◌, arith, length-append}
use Rattle.std.specs.FinMap as fin
use Rattle.turn_history.specs.Prelude.{Entry, FiveTuple}
use Rattle.turn_record.specs.Prelude.{each, entry, AreShort}
use Rattle.turn_record.proofs.SnapshotSizes.{are_short, size_snapshot, snapshot_at_most, snapshot_small}
use Rattle.turn_record.proofs.snapshot_writer.snapshot_size.Goals as goal

pub loop-kept-init : goal.loop-kept-init
loop-kept-init g c =
    let s = c.args.table.now in
    let all : c.into_iter-kept-iterator.result ≡ fin.entries s.contents.entries = c.into_iter-kept-iterator.ensures.into_iter_gives ∙ c.entries-kept-items.ensures in
    record {
      can_next = tt;
      is_finite = tt;
      short = subst AreShort (sym all) (are_short s.bounds s.moment s.contents c.limits-limits.ensures.range c.moment-moment.ensures.at);
      size = omega (arith, ap (λ (es : List (FiveTuple × Entry)). length (each (entry c.args.version) es)) all, size_snapshot c.args.version s.moment s.contents, c.reserved_size-size.ensures.size);
    }

pub overflow_add-size-in-loop-kept : goal.overflow_add-size-in-loop-kept
overflow_add-size-in-loop-kept g c =
    let s = c.args.table.now in
    let first : FiveTuple × Entry = (c.in-Some.field-0-0, c.in-Some.kept.now.entry) in
    let step : c.loop-kept.kept-iterator ≡ first ∷ c.next.new.self = c.in-Some.ensures.steps in
    let size = ap (λ (es : List (FiveTuple × Entry)). length (each (entry c.args.version) es)) step ∙ length-append (entry c.args.version first) (each (entry c.args.version) c.next.new.self) in
    omega (arith, size, c.entry_size-size.ensures.size c.in-Some.field-0-0, c.loop-kept.invariant.size, snapshot_small c.args.version s.bounds s.moment s.contents c.limits-limits.ensures.range c.moment-moment.ensures.at)

pub loop-kept-preserved : goal.loop-kept-preserved
loop-kept-preserved g c =
    let first : FiveTuple × Entry = (c.in-Some.field-0-0, c.in-Some.kept.now.entry) in
    let step : c.loop-kept.kept-iterator ≡ first ∷ c.next.new.self = c.in-Some.ensures.steps in
    let size = ap (λ (es : List (FiveTuple × Entry)). length (each (entry c.args.version) es)) step ∙ length-append (entry c.args.version first) (each (entry c.args.version) c.next.new.self) in
    record {
      can_next = tt;
      is_finite = tt;
      short = (subst AreShort step c.loop-kept.invariant.short).1;
      size = omega (arith, size, c.entry_size-size.ensures.size c.in-Some.field-0-0, c.loop-kept.invariant.size);
    }

pub returns-clause-most : goal.returns-clause-most
returns-clause-most g c =
    let s = c.args.table.now in
    omega (arith, c.loop-kept.invariant.size, snapshot_at_most c.args.version s.bounds s.moment s.contents c.moment-moment.ensures.at)

pub returns-clause-snapshot : goal.returns-clause-snapshot
returns-clause-snapshot g c = record { at = c.moment-moment.ensures.at; holds = c.requires }
