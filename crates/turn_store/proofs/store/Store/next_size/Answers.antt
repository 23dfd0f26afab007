use Rattle.std.proofs.Common.{◌≡◌, ◌∙◌, ap, arith, sym}
use Rattle.turn_record.specs.Prelude.{max_snapshot}
use Rattle.turn_store.proofs.store.Store.next_size.Goals as goal

pub returns-clause-small : goal.returns-clause-small
returns-clause-small g c =
    let t = c.args.table.now in
    let v = c.args.version in
    let inv = c.self.invariant in
    let same : max_snapshot v t.bounds ≡ max_snapshot v c.self.inside.limits = ap (max_snapshot v) (c.requires.table.0 ∙ sym (ap (λ st. st.bounds) c.self.view_is)) in
    omega (arith, c.snapshot_size.ensures.most, same, inv.small v)

pub returns-clause-room : goal.returns-clause-room
returns-clause-room g c =
    let t = c.args.table.now in
    let v = c.args.version in
    let same : max_snapshot v t.bounds ≡ max_snapshot v c.args.self.now.bounds = ap (max_snapshot v) c.requires.table.0 in
    omega (arith, c.snapshot_size.ensures.most, same, c.requires.area)

pub returns-clause-within : goal.returns-clause-within
returns-clause-within g c =
    let t = c.args.table.now in
    let v = c.args.version in
    let inv = c.self.invariant in
    let same : max_snapshot v t.bounds ≡ max_snapshot v c.args.self.now.bounds = ap (max_snapshot v) c.requires.table.0 in
    let area = ap (λ st. st.area.size) c.self.view_is in
    let room = c.requires.area in
    rw (← c.self.view_is) (omega (arith, c.snapshot_size.ensures.most, same, inv.whole, area, room, inv.other_within))

pub returns-clause-addressable : goal.returns-clause-addressable
returns-clause-addressable g c = rw (← c.self.view_is) c.self.invariant.addressable
