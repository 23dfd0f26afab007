use Rattle.std.proofs.Common.{◌≡◌, ◌∷◌, [], ◌+◌, ℕ, slice_index, arith, ap, ◌∙◌}
use Rattle.turn_disk.proofs.Since.{since_weaken, through_once}
use Rattle.turn_journal.proofs.Growing.{at_gate, with_open_gate}
use Rattle.turn_journal.proofs.gate.open_gate.Goals as goal

pub returns-in_err-write_through-clause-stop : goal.returns-in_err-write_through-clause-stop
returns-in_err-write_through-clause-stop g c = λ crash_model settled from payloads payload limit is waits.
    since_weaken _ _ _ _ (at_gate from payloads c.args.gate limit _ is payload waits) (c.write_through.ensures.stop crash_model settled)

pub returns-clause-stop : goal.returns-clause-stop
returns-clause-stop g c = λ crash_model settled from payloads payload limit is waits.
    since_weaken _ _ _ _ (at_gate from payloads c.args.gate limit _ is payload waits) (c.write_through.ensures.stop crash_model settled)

pub returns-clause-done : goal.returns-clause-done
returns-clause-done g c = λ crash_model from payloads payload limit is waits.
    let wrote = c.in_ok-write_through.ensures.done crash_model in
    let here : c.args.gate ≡ c.args.gate + 0 = omega arith in
    let bytes = (g.D.Disk.trace c.write_through.new.disk).now.bytes in
    let is_open : slice_index bytes c.args.gate ≡ 165 = ap (λ (i : ℕ). slice_index bytes i) here ∙ wrote.written 0 (omega arith) in
    (wrote.settled, with_open_gate from payloads c.args.gate limit _ is payload waits _ wrote.content is_open)

pub returns-in_err-write_through-clause-once : goal.returns-in_err-write_through-clause-once
returns-in_err-write_through-clause-once g c = λ crash_model. through_once c.args.gate (165 ∷ []) _ _ c.write_through.result (c.write_through.ensures.once crash_model)

pub returns-clause-once : goal.returns-clause-once
returns-clause-once g c = λ crash_model. through_once c.args.gate (165 ∷ []) _ _ c.write_through.result (c.write_through.ensures.once crash_model)
