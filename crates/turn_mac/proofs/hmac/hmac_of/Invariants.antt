use Rattle.std.proofs.Common.{◌++◌, map, take}
use Rattle.std.specs.List.{concat}
use Rattle.turn_mac.specs.Hmac.{key_block, masked}
use Rattle.turn_mac.proofs.hmac.hmac_of.Given as goal

abbrev pub invariant-loop-piece : goal.invariant-loop-piece
invariant-loop-piece g l = g.D.BlockDigest.holds l.inner (masked 0x36 (key_block g.D.BlockDigest.digest l.fn.key) ++ concat (map (λ piece. piece.now) (take l.piece-index l.pieces)))
