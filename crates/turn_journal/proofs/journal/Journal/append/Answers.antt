use Rattle.std.proofs.Common.{ap, arith, rules}
use Rattle.turn_disk.proofs.Passing.{passes_join, passes_none}
use Rattle.turn_journal.proofs.Adding.{adds_nothing, adds_opened, adds_staged, holds_opened, stop_of}
use Rattle.turn_journal.proofs.journal.Journal.append.Goals as goal

pub returns-then-not-room-clause-stages : goal.returns-then-not-room-clause-stages
returns-then-not-room-clause-stages g c = λ crash_model settled from payloads is. adds_nothing from payloads _ _ _ _ settled is

pub returns-then-not-room-clause-stop : goal.returns-then-not-room-clause-stop
returns-then-not-room-clause-stop g c = λ crash_model settled from payloads is.
    stop_of _ _ _ _ _ _ _ (returns-then-not-room-clause-stages g c crash_model settled from payloads is)

pub returns-in_err-write_after-clause-stages : goal.returns-in_err-write_after-clause-stages
returns-in_err-write_after-clause-stages g c = rw (← c.self.view_is) (λ crash_model settled from payloads is.
    adds_staged from payloads _ _ _ _ settled is _ c.put_frame.ensures.frame _ c.deref.ensures.value _ (c.write_after.ensures.stop crash_model settled from payloads _ is))

pub returns-in_err-write_after-clause-stop : goal.returns-in_err-write_after-clause-stop
returns-in_err-write_after-clause-stop g c = λ crash_model settled from payloads is.
    stop_of _ _ _ _ _ _ _ (returns-in_err-write_after-clause-stages g c crash_model settled from payloads is)

pub returns-in_err-open_gate-clause-stages : goal.returns-in_err-open_gate-clause-stages
returns-in_err-open_gate-clause-stages g c = rw (← c.self.view_is) (λ crash_model settled from payloads is.
    let before = c.open_gate.ensures.uses.crash_model crash_model in
    let wrote = c.in_ok-write_after.ensures.done before in
    adds_opened from payloads _ _ _ _ settled is _ c.put_frame.ensures.frame _ c.deref.ensures.value _ (c.write_after.ensures.stop before settled from payloads _ is)
    (omega (arith, c.requires.short, c.self.invariant.2, ap (λ a. a.max_payload) c.self.view_is)) (omega (arith, ap (λ a. a.end) c.self.view_is, ap (λ a. a.size) c.self.view_is))
    wrote _ (λ held waits. c.open_gate.ensures.stop crash_model wrote.settled from payloads _ _ held waits) (c.open_gate.ensures.once crash_model))

pub returns-in_err-open_gate-clause-stop : goal.returns-in_err-open_gate-clause-stop
returns-in_err-open_gate-clause-stop g c = λ crash_model settled from payloads is.
    stop_of _ _ _ _ _ _ _ (returns-in_err-open_gate-clause-stages g c crash_model settled from payloads is)

pub returns-clause-stages : goal.returns-clause-stages
returns-clause-stages g c = rw (← c.self.view_is) (λ crash_model settled from payloads is.
    let before = c.open_gate.ensures.uses.crash_model crash_model in
    let wrote = c.in_ok-write_after.ensures.done before in
    adds_opened from payloads _ _ _ _ settled is _ c.put_frame.ensures.frame _ c.deref.ensures.value _ (c.write_after.ensures.stop before settled from payloads _ is)
    (omega (arith, c.requires.short, c.self.invariant.2, ap (λ a. a.max_payload) c.self.view_is)) (omega (arith, ap (λ a. a.end) c.self.view_is, ap (λ a. a.size) c.self.view_is))
    wrote _ (λ held waits. c.open_gate.ensures.stop crash_model wrote.settled from payloads _ _ held waits) (c.open_gate.ensures.once crash_model))

pub returns-clause-stop : goal.returns-clause-stop
returns-clause-stop g c = λ crash_model settled from payloads is.
    stop_of _ _ _ _ _ _ _ (returns-clause-stages g c crash_model settled from payloads is)

pub returns-clause-done : goal.returns-clause-done
returns-clause-done g c = rw (← c.self.view_is) (λ crash_model settled from payloads is.
    let before = c.open_gate.ensures.uses.crash_model crash_model in
    let wrote = c.in_ok-write_after.ensures.done before in
    holds_opened from payloads _ _ _ _ settled is _ c.put_frame.ensures.frame _ c.deref.ensures.value _ (c.write_after.ensures.stop before settled from payloads _ is)
    (omega (arith, c.requires.short, c.self.invariant.2, ap (λ a. a.max_payload) c.self.view_is)) (omega (arith, ap (λ a. a.end) c.self.view_is, ap (λ a. a.size) c.self.view_is))
    wrote (g.D.Disk.trace c.open_gate.new.disk) (λ held waits. c.in_ok-open_gate.ensures.done crash_model from payloads _ _ held waits))

pub returns-clause-appended : goal.returns-clause-appended
returns-clause-appended g c = search rules

pub returns-then-not-room-clause-meanwhile : goal.returns-then-not-room-clause-meanwhile
returns-then-not-room-clause-meanwhile g c = passes_none

pub returns-in_err-open_gate-clause-meanwhile : goal.returns-in_err-open_gate-clause-meanwhile
returns-in_err-open_gate-clause-meanwhile g c = passes_join c.write_after.ensures.meanwhile c.open_gate.ensures.meanwhile

pub returns-clause-meanwhile : goal.returns-clause-meanwhile
returns-clause-meanwhile g c = passes_join c.write_after.ensures.meanwhile c.open_gate.ensures.meanwhile
