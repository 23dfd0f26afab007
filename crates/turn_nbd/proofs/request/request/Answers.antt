use Rattle.std.proofs.Common.{ℕ, [], w16, refl, ap, sym, ◌∙◌, arith, take_all}
use Rattle.std.specs.Int.{to_be_bytes}
use Rattle.turn_nbd.specs.Requests.{request}
use Rattle.turn_nbd.proofs.Filled.{filled}
use Rattle.turn_nbd.proofs.request.request.Goals as goal

pub returns : goal.returns
unfolding request
returns c =
    let a = filled 0 4 [] c.put.new.buffer [] c.to_be_bytes.result _ c.to_be_bytes.ensures refl refl c.put.ensures in
    let b = filled 4 6 c.put.new.buffer c.put-2.new.buffer _ c.to_be_bytes-2.result _ (c.to_be_bytes-2.ensures ∙ ap (λ (n : ℕ). to_be_bytes w16 n) c.flags.ensures) refl a c.put-2.ensures in
    let d = filled 6 8 c.put-2.new.buffer c.put-3.new.buffer _ c.to_be_bytes-3.result _ (c.to_be_bytes-3.ensures ∙ ap (λ (n : ℕ). to_be_bytes w16 n) c.number.ensures) refl b c.put-3.ensures in
    let e = filled 8 16 c.put-3.new.buffer c.put-4.new.buffer _ c.to_be_bytes-4.result _ c.to_be_bytes-4.ensures refl d c.put-4.ensures in
    let f = filled 16 24 c.put-4.new.buffer c.put-5.new.buffer _ c.to_be_bytes-5.result _ c.to_be_bytes-5.ensures refl e c.put-5.ensures in
    let g = filled 24 28 c.put-5.new.buffer c.put-6.new.buffer _ c.to_be_bytes-6.result _ c.to_be_bytes-6.ensures refl f c.put-6.ensures in
    sym (take_all 28 c.put-6.new.buffer (omega arith)) ∙ g
