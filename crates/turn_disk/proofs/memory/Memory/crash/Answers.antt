use Rattle.std.proofs.Common.{◌≡◌, List, ℕ, ap, ◌∙◌, arith, reverse, take, sym, subst, take_all}
use Rattle.turn_disk.specs.declared.call.Call.{Call}
use Rattle.turn_disk.specs.Prelude.{Trace, IsImage, left_by, trace_of}
use Rattle.turn_disk.proofs.Crashes.{left_image}
use Rattle.turn_disk.proofs.memory.Memory.crash.Goals as goal

pub returns-clause-image : goal.returns-clause-image
returns-clause-image g c =
    let inside = c.self.inside in
    let left : c.leave.new.content.items ≡ left_by c.args.outcome (trace_of inside.calls.items inside.replaced.items inside.content.items) =
    c.leave.ensures.left
    ∙ ap (λ (calls : List Call). left_by c.args.outcome (trace_of calls (take c.len-kept.result inside.replaced.items) inside.content.items)) c.deref.ensures.value
    ∙ ap (λ (replaced : List ℕ). left_by c.args.outcome (trace_of inside.calls.items replaced inside.content.items)) (take_all c.len-kept.result inside.replaced.items (omega (arith, c.len-kept.ensures))) in
    subst (λ (t : Trace). IsImage t.now c.leave.new.content.items) c.self.view_is
    (subst (λ (l : List ℕ). IsImage (trace_of inside.calls.items inside.replaced.items inside.content.items).now l) (sym left)
    (left_image c.args.outcome (reverse inside.calls.items) inside.replaced.items inside.content.items c.self.invariant))
