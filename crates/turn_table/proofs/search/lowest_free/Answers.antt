use Rattle.std.proofs.Common.{◌≡◌, ◌+◌, ◌-◌, ◌%◌, true, false, arith, cond, drop, take, length, sym, ap, subst, ◌∙◌, rules}
use Rattle.turn_table.proofs.FreePorts.{IsRun, begins, pass, step, gap, end, lowest_is}
use Rattle.turn_table.proofs.search.lowest_free.Goals as goal
use Rattle.turn_table.proofs.search.lowest_free.Goals.{then-even, else-even, then-even-2, else-even-2, then-even-3, else-even-3, then-lowest-port-2, else-lowest-port-2, else-loop-slot-test, then-loop-slot-test+then-lowest-port}

pub loop-slot-init : goal.loop-slot-init
loop-slot-init g c =
    let is_even : c.args.even ≡ true → (c.if-even-2.run ≡ 0) × (c.if-even-3.lowest ≡ c.args.first + c.args.first % 2) = elim c.if-even-2.branch [
      | then-even-2 w ↦ elim c.if-even-3.branch [
        | then-even-3 v ↦ λ e. (w.run-is, omega arith)
        | else-even-3 v ↦ λ e. absurd cc
      ]
      | else-even-2 w ↦ λ e. absurd cc
    ] in
    let is_odd : c.args.even ≡ false → IsRun c.args.first c.args.ports.now c.if-even-2.run × (c.if-even-3.lowest ≡ c.args.first + c.if-even-2.run) = elim c.if-even-2.branch [
      | then-even-2 w ↦ λ e. absurd cc
      | else-even-2 w ↦ elim c.if-even-3.branch [
        | then-even-3 v ↦ λ e. absurd cc
        | else-even-3 v ↦ λ e. (subst (IsRun c.args.first c.args.ports.now) (sym w.run-is) w.run_from-run.ensures.run, let fits = w.run_from-run.ensures.fits in omega arith)
      ]
    ] in
    begins (c.args.first, c.args.last) c.args.even c.args.ports.now c.if-even-2.run c.if-even-3.lowest c.requires is_even is_odd

pub loop-slot-preserved : goal.loop-slot-preserved
loop-slot-preserved g c =
    let step_is : c.if-even.step ≡ cond c.args.even 2 1 = elim c.if-even.branch [
      | then-even w ↦ w.step-is ∙ ap (λ b. cond b 2 1) (sym w.if-even.true)
      | else-even w ↦ w.step-is ∙ ap (λ b. cond b 2 1) (sym w.if-even.false)
    ] in
    let walked = take (length c.args.ports.now - c.if-even-2.run) (drop c.if-even-2.run c.args.ports.now) in
    elim c.if-lowest-port-2.branch [
      | then-lowest-port-2 w ↦
          step (c.args.first, c.args.last) c.args.even c.args.ports.now walked c.requires c.loop-slot.slot-index c.slot-item.result c.loop-slot.lowest c.if-even.step c.if-lowest-port-2.lowest
          c.loop-slot-test.true c.slot-item.is c.loop-slot.invariant (omega arith) step_is (omega arith)
      | else-lowest-port-2 w ↦
          pass (c.args.first, c.args.last) c.args.even c.args.ports.now walked c.loop-slot.slot-index c.slot-item.result c.loop-slot.lowest c.if-lowest-port-2.lowest
          c.loop-slot-test.true c.slot-item.is c.loop-slot.invariant (omega arith) (omega arith)
    ]

pub returns-then-lowest-from : goal.returns-then-lowest-from
returns-then-lowest-from g c =
    let walked = take (length c.args.ports.now - c.if-even-2.run) (drop c.if-even-2.run c.args.ports.now) in
    lowest_is (c.args.first, c.args.last) c.args.even c.args.ports.now (drop c.loop-slot.slot-index walked) c.loop-slot.lowest c.loop-slot.invariant
    (elim c.loop-slot-test.branch [
      | else-loop-slot-test w ↦ end (c.args.first, c.args.last) c.args.even c.args.ports.now walked c.requires c.loop-slot.slot-index c.loop-slot.lowest w.loop-slot-test.false c.loop-slot.invariant
      | then-loop-slot-test+then-lowest-port w ↦
          gap (c.args.first, c.args.last) c.args.even c.args.ports.now walked c.requires c.loop-slot.slot-index w.slot-item.result c.loop-slot.lowest w.loop-slot-test.true w.slot-item.is c.loop-slot.invariant
          (omega arith)
    ])
    (omega arith) c.ranges.last.fits

pub returns-else-lowest-from : goal.returns-else-lowest-from
returns-else-lowest-from g c = search rules
