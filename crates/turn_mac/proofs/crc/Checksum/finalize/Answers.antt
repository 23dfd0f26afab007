use Rattle.std.proofs.Common.{◌∙◌, ◌-◌, ℕ, ap, sym}
use Rattle.turn_mac.specs.CrcState.{HoldsBytes}
use Rattle.turn_mac.proofs.Division.{crc_is}
use Rattle.turn_mac.proofs.crc.Checksum.finalize.Goals as goal

pub returns : goal.returns
unfolding HoldsBytes
returns c = λ bytes fits holds. ap (λ (x : ℕ). 4294967295 - x) holds ∙ sym (crc_is bytes fits)
