use Rattle.std.proofs.Common.{◌≡◌, refl, sym, subst}
use Rattle.turn_reading.proofs.reading.read_once.Goals as goal

pub returns-in-Ok-clause-crash_model : goal.returns-in-Ok-clause-crash_model
returns-in-Ok-clause-crash_model g c crash_model = c.in-Ok.ensures.uses.crash_model (subst (λ disk. g.D.Disk.follows_crash_model disk) c.into_disk.ensures crash_model)

pub returns-in-Ok-clause-same : goal.returns-in-Ok-clause-same
returns-in-Ok-clause-same g c crash_model =
    let before = subst (λ disk. g.D.Disk.follows_crash_model disk) c.into_disk.ensures crash_model in
    subst (λ disk. (g.D.Disk.trace disk).now.bytes ≡ (g.D.Disk.trace c.args.disk).now.bytes) (sym c.into_disk.ensures) (c.in-Ok.ensures.same refl before)

pub returns-in-Ok-clause-read : goal.returns-in-Ok-clause-read
returns-in-Ok-clause-read g c crash_model =
    let before = subst (λ disk. g.D.Disk.follows_crash_model disk) c.into_disk.ensures crash_model in
    record {
      store = c.in-Ok.opened.store;
      state = (g.D.Disk.trace c.in-Ok.opened.store.disk).now;
      is_under = c.in-Ok.ensures.bounds.0;
      same = c.in-Ok.ensures.same refl before;
      opened = c.in-Ok.ensures.opened before;
    }

pub returns-in-Ok-clause-tells : goal.returns-in-Ok-clause-tells
returns-in-Ok-clause-tells g c crash_model form h clock limits stands =
    (c.in-Ok.ensures.recovers (subst (λ disk. g.D.Disk.follows_crash_model disk) c.into_disk.ensures crash_model) form h clock limits stands).table_is

pub returns-in-Err-clause-tells : goal.returns-in-Err-clause-tells
returns-in-Err-clause-tells g c crash_model form h clock limits stands = c.in-Err.ensures.sound crash_model form h clock limits stands
