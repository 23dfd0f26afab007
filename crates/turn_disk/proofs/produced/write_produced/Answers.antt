use Rattle.std.proofs.Common.{rules, ◌+◌, arith, refl, ◌∙◌, length-take}
use Rattle.turn_disk.proofs.Passing.{passes_join, passes_none}
use Rattle.turn_disk.proofs.Pieces.{next_given, next_is, none_so_far, more_so_far, stopped_so_far, synced_so_far, whole_so_far}
use Rattle.turn_disk.proofs.Since.{outcome_sync}
use Rattle.turn_disk.proofs.produced.write_produced.Goals as goal

pub pieces-init : goal.pieces-init
pieces-init g c = record {
  size_of_piece = search rules;
  within = omega arith;
  rest = refl;
  size = refl;
  count = refl;
  crash_model = λ h. h;
  so_far = λ crash_model settled. none_so_far c.args.at _ _ settled;
  meanwhile = passes_none;
}

pub pieces-preserved : goal.pieces-preserved
pieces-preserved g c =
    let inv = c.pieces.invariant in
    let given = next_given _ c.pieces.done c.fill_piece-count.result c.fill_piece-count.new.piece _ _ inv.within inv.rest (omega (arith, c.fill_piece-count.ensures.small, c.fill_piece-count.ensures.len)) c.fill_piece-count.ensures.gives (λ none. c.fill_piece-count.ensures.ends (omega (arith, none))) in
    record {
      size_of_piece = c.fill_piece-count.ensures.len;
      within = given.within;
      rest = given.remaining;
      size = c.write_within.ensures.uses.size ∙ inv.size;
      count = c.in_ok-write_within.ensures.uses.count (λ e. cc) ∙ inv.count;
      crash_model = λ h. inv.crash_model (c.write_within.ensures.uses.crash_model h);
      so_far = λ crash_model settled.
          more_so_far c.args.at _ _ c.pieces.done (c.pieces.done + c.fill_piece-count.result) _ _ _ (omega arith) given.within (next_is _ _ _ _ _ given) (inv.so_far (c.write_within.ensures.uses.crash_model crash_model) settled) (c.in_ok-write_within.ensures.outcome crash_model);
      meanwhile = passes_join inv.meanwhile c.write_within.ensures.meanwhile;
    }

pub returns-in_err-write_within-clause-stop : goal.returns-in_err-write_within-clause-stop
returns-in_err-write_within-clause-stop g c = λ crash_model settled.
    let inv = c.pieces.invariant in
    let given = next_given _ c.pieces.done c.fill_piece-count.result c.fill_piece-count.new.piece _ _ inv.within inv.rest (omega (arith, c.fill_piece-count.ensures.small, c.fill_piece-count.ensures.len)) c.fill_piece-count.ensures.gives (λ none. c.fill_piece-count.ensures.ends (omega (arith, none))) in
    stopped_so_far c.args.at _ _ c.pieces.done (c.pieces.done + c.fill_piece-count.result) _ _ _ (omega arith) given.within (next_is _ _ _ _ _ given) (inv.so_far (c.write_within.ensures.uses.crash_model crash_model) settled) (c.in_err-write_within.ensures.outcome crash_model)

pub returns-in_err-sync-clause-stop : goal.returns-in_err-sync-clause-stop
returns-in_err-sync-clause-stop g c = λ crash_model settled.
    let inv = c.pieces.invariant in
    synced_so_far c.args.at _ c.pieces.done _ _ _ (inv.so_far (c.sync.ensures.crash_model crash_model) settled) (outcome_sync _ _ _ (c.sync.ensures.outcome crash_model))

pub returns-then-count-eq0-clause-stop : goal.returns-then-count-eq0-clause-stop
returns-then-count-eq0-clause-stop g c = λ crash_model settled.
    let inv = c.pieces.invariant in
    synced_so_far c.args.at _ c.pieces.done _ _ _ (inv.so_far (c.sync.ensures.crash_model crash_model) settled) (outcome_sync _ _ _ (c.sync.ensures.outcome crash_model))

pub returns-then-count-eq0-clause-done : goal.returns-then-count-eq0-clause-done
returns-then-count-eq0-clause-done g c = λ crash_model settled.
    let inv = c.pieces.invariant in
    let given = next_given _ c.pieces.done c.fill_piece-count.result c.fill_piece-count.new.piece _ _ inv.within inv.rest (omega (arith, c.fill_piece-count.ensures.small, c.fill_piece-count.ensures.len)) c.fill_piece-count.ensures.gives (λ none. c.fill_piece-count.ensures.ends (omega (arith, none))) in
    whole_so_far c.args.at _ c.pieces.done _ _ _ (given.ends c.if-count-eq0.true) (inv.so_far (c.sync.ensures.crash_model crash_model) settled) (c.in_ok-sync.ensures.outcome crash_model)

pub write_within-requires : goal.write_within-requires
write_within-requires g c =
    let inv = c.pieces.invariant in
    let given = next_given _ c.pieces.done c.fill_piece-count.result c.fill_piece-count.new.piece _ _ inv.within inv.rest (omega (arith, c.fill_piece-count.ensures.small, c.fill_piece-count.ensures.len)) c.fill_piece-count.ensures.gives (λ none. c.fill_piece-count.ensures.ends (omega (arith, none))) in
    omega (arith, given.within, c.requires.place, inv.size, given.small, length-take c.fill_piece-count.result c.fill_piece-count.new.piece)

pub overflow_add-done : goal.overflow_add-done
overflow_add-done g c =
    let inv = c.pieces.invariant in
    let given = next_given _ c.pieces.done c.fill_piece-count.result c.fill_piece-count.new.piece _ _ inv.within inv.rest (omega (arith, c.fill_piece-count.ensures.small, c.fill_piece-count.ensures.len)) c.fill_piece-count.ensures.gives (λ none. c.fill_piece-count.ensures.ends (omega (arith, none))) in
    omega (arith, given.within, c.requires.addressable)

pub pieces-smaller : goal.pieces-smaller
pieces-smaller g c =
    let inv = c.pieces.invariant in
    let given = next_given _ c.pieces.done c.fill_piece-count.result c.fill_piece-count.new.piece _ _ inv.within inv.rest (omega (arith, c.fill_piece-count.ensures.small, c.fill_piece-count.ensures.len)) c.fill_piece-count.ensures.gives (λ none. c.fill_piece-count.ensures.ends (omega (arith, none))) in
    omega (arith, given.within, c.if-count-eq0.false, inv.within)

pub returns-in_err-write_within-clause-meanwhile : goal.returns-in_err-write_within-clause-meanwhile
returns-in_err-write_within-clause-meanwhile g c = passes_join c.pieces.invariant.meanwhile c.write_within.ensures.meanwhile

pub returns-in_err-sync-clause-meanwhile : goal.returns-in_err-sync-clause-meanwhile
returns-in_err-sync-clause-meanwhile g c = passes_join c.pieces.invariant.meanwhile c.sync.ensures.meanwhile

pub returns-then-count-eq0-clause-meanwhile : goal.returns-then-count-eq0-clause-meanwhile
returns-then-count-eq0-clause-meanwhile g c = passes_join c.pieces.invariant.meanwhile c.sync.ensures.meanwhile
