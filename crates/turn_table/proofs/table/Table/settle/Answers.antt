use Rattle.std.proofs.Common.{◌≡◌, ap, sym, ◌∙◌, subst, arith, option_map, None, nat_cmp}
use Rattle.std.specs.FinMap as fin
use Rattle.turn_history.proofs.TableAt.{at-purged}
use Rattle.turn_history.specs.Prelude.{Contents, purged}
use Rattle.turn_table.specs.Prelude.{map_in, still_entry, entries_of, State}
use Rattle.turn_table.proofs.Purging.{purged_ahead, purged_quiet, stays}
use Rattle.turn_table.proofs.Ready.{IsAt, at_of, holds_of, min_below, quiet_before}
use Rattle.turn_table.proofs.table.Table.settle.Goals as goal

pub returns-then-self-seconds : goal.returns-then-self-seconds
returns-then-self-seconds g c =
    let contents : Contents = record { entries = entries_of c.purge.new.self.held; reserved = map_in nat_cmp c.self.inside.reserved } in
    let left : contents ≡ purged c.args.moment c.args.self.now.contents =
    purged_ahead c.args.moment c.args.self.now.contents contents c.requires.entries (λ f.
    c.purge.ensures f
    ∙ ap (λ t. option_map (still_entry t) (fin.get (entries_of c.self.inside.allocations.held) f)) c.seconds-then-self-seconds.ensures.value
    ∙ ap (λ s. option_map (still_entry c.args.moment) (fin.get s.contents.entries f)) c.self.view_is)
    (λ q. ap (λ s. fin.get s.contents.reserved q) c.self.view_is ∙ stays c.args.moment c.args.self.now.contents.reserved c.requires.reserved q) in
    λ j. record { bounds = (c.self.view_is j).bounds; moment = c.args.moment; contents = left j; room = None }

pub returns-else-self-seconds : goal.returns-else-self-seconds
returns-else-self-seconds g c =
    ap (λ (s : State). record s { moment = c.args.moment; room = None }) c.self.view_is
    ∙ ap (λ (k : Contents). record c.args.self.now { moment = c.args.moment; contents = k; room = None })
    (purged_quiet c.args.moment c.self.inside.quiet_until c.args.self.now.contents (omega (arith, c.if-self-seconds.false, c.seconds.ensures.value)) (holds_of c.self.view_is c.self.invariant))

pub invariant_of-self : goal.invariant_of-self
invariant_of-self g c =
    let least = min_below c.quiet_until.result c.earliest.result c.min-self-inside.result c.min-self-inside.ensures in
    record {
      range = c.self.invariant.range;
      at = subst IsAt (sym (returns-then-self-seconds g c)) (at-purged _ _ c.args.moment c.args.self.now.contents c.requires.late c.seconds.ensures.range (at_of c.self.view_is c.self.invariant));
      quiet = λ f h is. quiet_before c.min-self-inside.result c.quiet_until.result h.entry least.0 (c.quiet_until.ensures f h is);
      reserved_quiet = λ port r is. let later = c.earliest.ensures port r is in omega (arith, later, least.1);
      spare = λ r is. cc;
    }

pub invariant_of-self-else-self-seconds : goal.invariant_of-self-else-self-seconds
invariant_of-self-else-self-seconds g c = record {
  range = c.self.invariant.range;
  at = subst IsAt (sym (returns-else-self-seconds g c)) (at-purged _ _ c.args.moment c.args.self.now.contents c.requires.late c.seconds.ensures.range (at_of c.self.view_is c.self.invariant));
  quiet = c.self.invariant.quiet;
  reserved_quiet = c.self.invariant.reserved_quiet;
  spare = λ r is. cc;
}
