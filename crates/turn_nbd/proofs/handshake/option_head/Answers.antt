use Rattle.std.proofs.Common.{[], codes, refl, sym, ◌∙◌, arith, take_all}
use Rattle.turn_nbd.specs.Handshake.{option_head}
use Rattle.turn_nbd.proofs.Filled.{filled}
use Rattle.turn_nbd.proofs.handshake.option_head.Goals as goal

pub returns : goal.returns
unfolding option_head
returns c =
    let a = filled 0 8 [] c.put.new.buffer [] _ (codes "IHAVEOPT") refl refl refl c.put.ensures in
    let b = filled 8 12 c.put.new.buffer c.put-2.new.buffer _ c.to_be_bytes.result _ c.to_be_bytes.ensures refl a c.put-2.ensures in
    let d = filled 12 16 c.put-2.new.buffer c.put-3.new.buffer _ c.to_be_bytes-2.result _ c.to_be_bytes-2.ensures refl b c.put-3.ensures in
    sym (take_all 16 c.put-3.new.buffer (omega arith)) ∙ d
