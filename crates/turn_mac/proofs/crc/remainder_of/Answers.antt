use Rattle.std.proofs.Common.{◌∙◌, ℕ, ap, get_or, arith}
use Rattle.turn_mac.specs.declared.crc_table.TheConstants.{REMAINDERS}
use Rattle.turn_mac.proofs.Table.{table_at}
use Rattle.turn_mac.proofs.crc.remainder_of.Goals as goal

pub returns : goal.returns
returns c = ap (λ (byte : ℕ). get_or REMAINDERS byte 0) c.from.ensures ∙ table_at c.args.byte (omega arith)
