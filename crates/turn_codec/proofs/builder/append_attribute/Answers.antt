use Rattle.std.proofs.Common.{◌∙◌, ap, List, ℕ, ◌++◌}
use Rattle.turn_codec.proofs.Building.{appended}
use Rattle.turn_codec.proofs.builder.append_attribute.Goals as goal

pub returns-clause-ok : goal.returns-clause-ok
returns-clause-ok g c = appended c.args.bytes.now.items c.extend_from_slice.new.self.items c.extend_from_slice-2.new.self.items c.extend_from_slice-3.new.self.items c.extend_from_slice-4.new.self.items c.args.value.now _ _ _ _
    (c.in_ok-extend_from_slice.ensures.items ∙ ap (λ (b : List ℕ). b ++ c.to_be_bytes.result) c.in_ok-reserve.ensures.items ∙ ap (λ (t : List ℕ). c.args.bytes.now.items ++ t) c.to_be_bytes.ensures)
    (c.in_ok-extend_from_slice-2.ensures.items ∙ ap (λ (t : List ℕ). c.extend_from_slice.new.self.items ++ t) c.to_be_bytes-2.ensures)
    c.in_ok-extend_from_slice-3.ensures.items
    c.in_ok-extend_from_slice-4.ensures.items
