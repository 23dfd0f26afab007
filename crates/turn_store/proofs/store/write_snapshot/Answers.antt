use Rattle.std.proofs.Common.{◌∙◌, ◌++◌, ◌∷◌, [], ℕ, ap, arith}
use Rattle.turn_store.specs.Prelude.{area_front, encoded}
use Rattle.turn_store.proofs.Steps.{front_is, length-front}
use Rattle.turn_store.proofs.Staged.{step_of}
use Rattle.turn_store.proofs.store.write_snapshot.Goals as goal

pub replace-requires-clause-place : goal.replace-requires-clause-place
replace-requires-clause-place g c =
    let v = c.args.next.version in
    let next = encoded v c.args.table.now in
    let front = front_is v _ _ next _ _ _ _ c.area_head-head.ensures c.requires.value c.new.ensures c.new-2.ensures c.new-3.ensures in
    omega (arith, length-front v _ next _ front, c.requires.value, c.requires.place)

pub replace-requires-clause-addressable : goal.replace-requires-clause-addressable
replace-requires-clause-addressable g c =
    let v = c.args.next.version in
    let next = encoded v c.args.table.now in
    let front = front_is v _ _ next _ _ _ _ c.area_head-head.ensures c.requires.value c.new.ensures c.new-2.ensures c.new-3.ensures in
    omega (arith, length-front v _ next _ front, c.requires.value, c.requires.place, c.requires.addressable)

pub returns : goal.returns
returns g c =
    let replaces = c.replace.ensures in
    step_of (λ crash_model v form start generation end s ps next_is fits area room recovers.
    let w = c.args.next.version in
    let next = encoded w c.args.table.now in
    let front = front_is w _ _ next _ _ _ _ c.area_head-head.ensures c.requires.value c.new.ensures c.new-2.ensures c.new-3.ensures in
    replaces.does crash_model v w form start generation end s next ps (omega (arith, next_is, fits)) (omega (arith, c.requires.value, c.requires.small)) area (omega (arith, c.requires.value, room))
    (front ∙ ap (λ (n : ℕ). area_front w n next ++ 0 ∷ []) next_is) recovers) replaces.uses replaces.meanwhile
