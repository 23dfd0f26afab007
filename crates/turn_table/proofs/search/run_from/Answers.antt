use Rattle.std.proofs.Common.{◌≡◌, ℕ, ◌+◌, ◌-◌, ◌/◌, ◌<◌, ◌≤◌, length, get_or, refl, ap, ◌∙◌, arith}
use Rattle.std.proofs.lemmas.Option.{slice_get_read}
use Rattle.turn_table.proofs.FreePorts.{run_to}
use Rattle.turn_table.proofs.Sorted.{holds}
use Rattle.turn_table.proofs.search.run_from.Goals as goal

pub loop-low-preserved-then-from-middle : goal.loop-low-preserved-then-from-middle
loop-low-preserved-then-from-middle g c =
    let ports = c.args.ports.now in
    let middle : ℕ = c.loop-low.low + (c.loop-low.high - c.loop-low.low) / 2 in
    let below : middle < c.loop-low.high = omega arith in
    let within : c.loop-low.high ≤ length ports = c.loop-low.invariant.3 in
    let lt : middle < length ports = omega arith in
    let v = c.index-ports-middle.result in
    let read : v.0 ≡ (get_or ports middle v).0 = ap (λ s. s.0) c.index-ports-middle.is in
    let from = c.from.ensures in
    let reaches = c.if-from-middle.true in
    let above = c.if-first-port.true in
    let port_is : v.0 ≡ c.args.first + middle = omega arith in
    let small = c.index-ports-middle.element_fits in
    let starts : c.index-ports-0.result.0 ≡ c.args.first = ap (λ s. s.0) c.index-ports-0.is ∙ c.if-ports-first.false in
    let front = slice_get_read ports (length ports) 0 c.index-ports-0.result refl (omega arith) c.index-ports-0.is in (
      run_to c.args.first ports middle v (holds _ c.requires) (λ x e. let same : c.index-ports-0.result ≡ x = cc in let ports_same : c.index-ports-0.result.0 ≡ x.0 = ap (λ s. s.0) same in omega arith)
          (slice_get_read ports (length ports) middle v refl lt c.index-ports-middle.is) port_is,
      omega arith,
      omega arith,
      within,
    )
