use Rattle.std.proofs.Common.{◌≡◌, ◌+◌, ◌-◌, ◌≤◌, ℕ, List, arith, take, drop, length, ap, ◌∙◌, subst}
use Rattle.turn_disk.specs.Prelude.{Trace, Writes, trace_of}
use Rattle.turn_disk.proofs.Recorded.{noted}
use Rattle.turn_disk.proofs.memory.Memory.write.Goals as goal

pub returns-clause-written : goal.returns-clause-written
returns-clause-written g c =
    let at = c.args.at in
    let count = length c.args.bytes.now in
    let inside = c.self.inside in
    let fits : at + count ≤ length inside.content.items = omega (arith, c.requires, ap (λ (t : Trace). length t.now.bytes) c.self.view_is) in
    let sizes : at + count - at ≡ count = omega arith in
    let old_is : take (at + count - at) (drop at c.deref.result.now) ≡ take count (drop at inside.content.items) =
    ap (λ (n : ℕ). take n (drop at c.deref.result.now)) sizes ∙ ap (λ (l : List ℕ). take count (drop at l)) c.deref.ensures.value in
    subst (λ (t : Trace). Writes at c.args.bytes.now t (trace_of c.note.new.calls.items c.note.new.replaced.items c.overwrite.new.content.items)) c.self.view_is
    (noted at c.args.bytes.now inside.content.items _ inside.replaced.items inside.calls.items fits old_is _ _ _ c.in_ok-note.ensures.calls c.in_ok-note.ensures.replaced c.overwrite.ensures.content)
