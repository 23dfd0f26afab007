use Rattle.std.proofs.Common.{◌+◌, ◌^◌, ◌<◌, ◌≤◌, ◌≡◌, ap, arith, refl, subst, sym, rules}
use Rattle.turn_store.specs.Prelude.{V2, least_area, carried_area, snapshot_of}
use Rattle.turn_store.proofs.Carried.{carry_shown}
use Rattle.turn_store.proofs.store.Store.carry.Goals as goal

pub returns-in_err-write_snapshot : goal.returns-in_err-write_snapshot
returns-in_err-write_snapshot g c = rw (← c.self.view_is, ← c.next_area-area.ensures) (
    let same = c.self.view_is in
    let last : c.self.inside.generation + 1 < 2 ^ 64 = omega (arith, c.requires.generation, ap (λ st. st.generation) same) in
    record { uses = search rules; ok = search rules; err = search rules; stages = λ crash_model s ps shows. (c.write_snapshot.ensures.does crash_model _ _ _ _ _ s ps refl last (subst (λ st. least_area V2 st.bounds ≤ st.area.size) (sym same) c.requires.area) (omega (arith, c.requires.room, ap (λ st. st.area.size) same)) shows.recovers).stages; shown = search rules })

pub returns : goal.returns
returns g c = rw (← c.self.view_is, ← c.next_area-area.ensures) (
    let same = c.self.view_is in
    let last : c.self.inside.generation + 1 < 2 ^ 64 = omega (arith, c.requires.generation, ap (λ st. st.generation) same) in
    let replaces = λ (crash_model : g.D.Disk.follows_crash_model c.write_snapshot.new.disk). c.in_ok-write_snapshot.ensures.does crash_model in
    record {
      uses = search rules;
      ok = search rules;
      err = tt;
      stages = λ crash_model s ps shows.
          (replaces crash_model _ _ _ _ _ s ps refl last (subst (λ st. least_area V2 st.bounds ≤ st.area.size) (sym same) c.requires.area) (omega (arith, c.requires.room, ap (λ st. st.area.size) same)) shows.recovers).stages;
      shown = λ crash_model s ps shows.
          carry_shown _ (snapshot_of c.args.table.now) _ s ps shows _ _ _ _ c.args.size c.start-self-inside.ensures.start c.requires.value (rw c.next_area-area.ensures (subst (λ st. c.args.journal ≡ carried_area st c.args.size) (sym same) c.requires.journal))
          (replaces crash_model _ _ _ _ _ s ps refl last (subst (λ st. least_area V2 st.bounds ≤ st.area.size) (sym same) c.requires.area) (omega (arith, c.requires.room, ap (λ st. st.area.size) same)) shows.recovers).done;
    })
