use Rattle.std.proofs.Common.{◌+◌, ◌^◌, ◌<◌, ap, arith, refl, rules}
use Rattle.turn_store.specs.Prelude.{encoded}
use Rattle.turn_store.proofs.Steps.{swap_shown}
use Rattle.turn_store.proofs.store.Store.replace_snapshot.Goals as goal

pub returns-in_err-write_snapshot-clause-writes : goal.returns-in_err-write_snapshot-clause-writes
returns-in_err-write_snapshot-clause-writes g c = rw (← c.self.view_is, ← c.next_area-area.ensures) (
    let last : c.self.inside.generation + 1 < 2 ^ 64 = omega (arith, c.requires.generation, ap (λ st. st.generation) c.self.view_is) in
    record { uses = search rules; ok = search rules; err = search rules; stages = λ crash_model s ps shows. (c.write_snapshot.ensures.does crash_model _ _ _ _ _ s ps refl last c.self.invariant.room c.next_size-size.ensures.room shows.recovers).stages; shown = search rules })

pub returns-clause-writes : goal.returns-clause-writes
returns-clause-writes g c = rw (← c.self.view_is, ← c.next_area-area.ensures) (
    let size = c.next_size-size.ensures in
    let last : c.self.inside.generation + 1 < 2 ^ 64 = omega (arith, c.requires.generation, ap (λ st. st.generation) c.self.view_is) in
    record {
      uses = search rules;
      ok = search rules;
      err = tt;
      stages = λ crash_model s ps shows. (c.write_snapshot.ensures.does crash_model _ _ _ _ _ s ps refl last c.self.invariant.room size.room shows.recovers).stages;
      shown = λ crash_model s ps shows.
          swap_shown _ (g.D.Disk.trace c.self.inside.disk) s ps shows _ _ _ _ _ (encoded c.self.inside.version c.args.table.now) c.start-start.ensures.start size.value c.move_to.ensures
          (c.in_ok-write_snapshot.ensures.does crash_model _ _ _ _ _ s ps refl last c.self.invariant.room size.room shows.recovers).done;
    })
