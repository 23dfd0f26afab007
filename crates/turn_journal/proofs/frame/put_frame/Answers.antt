use Rattle.std.proofs.Common.{◌≡◌, ◌+◌, ◌++◌, [], ◌∷◌, ℕ, List, length, take, arith, ap, ◌∙◌}
use Rattle.std.specs.Int.{to_be_bytes, w32}
use Rattle.turn_journal.specs.Frames.{framed}
use Rattle.turn_journal.proofs.frame.put_frame.Goals as goal

pub returns-clause-frame : goal.returns-clause-frame
unfolding framed
returns-clause-frame g c =
    let payload = c.args.payload.now in
    let size : length payload + 5 ≡ 4 + length payload + 1 = omega arith in
    let four : 4 ≡ 0 + length c.to_be_bytes.result = omega (arith, ap length c.to_be_bytes.ensures) in
    let head : take 4 c.put.new.buffer.items ≡ to_be_bytes w32 (length payload) =
    ap (λ (n : ℕ). take n c.put.new.buffer.items) four ∙ c.put.ensures.front ∙ c.to_be_bytes.ensures in
    ap (λ (n : ℕ). take n c.put-3.new.buffer.items) size
    ∙ c.put-3.ensures.front
    ∙ ap (λ (l : List ℕ). l ++ 0 ∷ []) (c.put-2.ensures.front ∙ ap (λ (l : List ℕ). l ++ payload) head)
