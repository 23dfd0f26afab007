use Rattle.std.proofs.Common.{◌∙◌, ℕ, ap, sym}
use Rattle.turn_mac.specs.CrcState.{HoldsBytes}
use Rattle.turn_mac.specs.Register.{register_after}
use Rattle.turn_mac.proofs.Table.{register_after-append}
use Rattle.turn_mac.proofs.crc.Checksum.update.Goals as goal

pub returns : goal.returns
unfolding HoldsBytes
returns c = λ bytes holds. c.register_after-self.ensures ∙ ap (λ (x : ℕ). register_after x c.args.piece.now) holds ∙ sym (register_after-append 0xFFFF_FFFF bytes c.args.piece.now)
