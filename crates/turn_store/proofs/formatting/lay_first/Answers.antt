use Rattle.std.proofs.Common.{◌∷◌, ◌++◌, [], List, ℕ, sym, subst, OnOk}
use Rattle.turn_disk.specs.Prelude.{ThroughOutcome, WritesThrough}
use Rattle.turn_store.specs.Prelude.{Version, V1, V2, area_front, fresh}
use Rattle.turn_store.proofs.Formats.{fresh_is}
use Rattle.turn_store.proofs.formatting.lay_first.Goals as goal

pub returns-in-V1-clause-done : goal.returns-in-V1-clause-done
returns-in-V1-clause-done g c = λ crash_model.
    let old = (g.D.Disk.trace c.args.disk.now).now in
    let new = (g.D.Disk.trace c.write_through.new.disk).now in
    subst (λ (v : Version). OnOk c.write_through.result (WritesThrough 64 (0 ∷ (area_front v 1 (fresh v) ++ 0 ∷ [])) old new)) (sym c.in-V1.is)
    (subst (λ (l : List ℕ). OnOk c.write_through.result (WritesThrough 64 l old new)) (fresh_is V1) (c.write_through.ensures.done crash_model))

pub returns-in-V2-clause-done : goal.returns-in-V2-clause-done
returns-in-V2-clause-done g c = λ crash_model.
    let old = (g.D.Disk.trace c.args.disk.now).now in
    let new = (g.D.Disk.trace c.write_through-in-V2.new.disk).now in
    subst (λ (v : Version). OnOk c.write_through-in-V2.result (WritesThrough 64 (0 ∷ (area_front v 1 (fresh v) ++ 0 ∷ [])) old new)) (sym c.in-V2.is)
    (subst (λ (l : List ℕ). OnOk c.write_through-in-V2.result (WritesThrough 64 l old new)) (fresh_is V2) (c.write_through-in-V2.ensures.done crash_model))

pub returns-in-V1-clause-once : goal.returns-in-V1-clause-once
returns-in-V1-clause-once g c = λ crash_model.
    let old = g.D.Disk.trace c.args.disk.now in
    let new = g.D.Disk.trace c.write_through.new.disk in
    subst (λ (v : Version). ThroughOutcome 64 (0 ∷ (area_front v 1 (fresh v) ++ 0 ∷ [])) old new c.write_through.result) (sym c.in-V1.is)
    (subst (λ (l : List ℕ). ThroughOutcome 64 l old new c.write_through.result) (fresh_is V1) (c.write_through.ensures.once crash_model))

pub returns-in-V2-clause-once : goal.returns-in-V2-clause-once
returns-in-V2-clause-once g c = λ crash_model.
    let old = g.D.Disk.trace c.args.disk.now in
    let new = g.D.Disk.trace c.write_through-in-V2.new.disk in
    subst (λ (v : Version). ThroughOutcome 64 (0 ∷ (area_front v 1 (fresh v) ++ 0 ∷ [])) old new c.write_through-in-V2.result) (sym c.in-V2.is)
    (subst (λ (l : List ℕ). ThroughOutcome 64 l old new c.write_through-in-V2.result) (fresh_is V2) (c.write_through-in-V2.ensures.once crash_model))
