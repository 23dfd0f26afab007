use Rattle.std.proofs.Common.{◌∙◌, ◌%◌, ◌/◌, ℕ, ap, refl, arith, bit_xor}
use Rattle.turn_mac.specs.Crc.{byte_remainder}
use Rattle.turn_mac.specs.Register.{register_after}
use Rattle.turn_mac.proofs.Table.{one_more}
use Rattle.turn_mac.proofs.crc.register_after.Goals as goal

pub loop-byte-init : goal.loop-byte-init
unfolding register_after
loop-byte-init c = refl

pub loop-byte-preserved : goal.loop-byte-preserved
loop-byte-preserved c =
    let register = c.loop-byte.register in
    let index = c.loop-byte.byte-index in
    ap (λ (x : ℕ). bit_xor x (register / 256)) c.remainder_of.ensures
    ∙ ap (λ (b : ℕ). bit_xor (byte_remainder (bit_xor register b % 256)) (register / 256)) c.from.ensures
    ∙ one_more c.args.register register c.args.bytes.now index (omega arith) (omega (arith, c.type_inv.bytes index)) c.loop-byte.invariant
