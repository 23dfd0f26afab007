use Rattle.std.proofs.Common.{rules}
use Rattle.turn_mac.proofs.hmac.key_block.Goals as goal

pub returns-else-key-le-BLOCK : goal.returns-else-key-le-BLOCK
returns-else-key-le-BLOCK g c = search rules
