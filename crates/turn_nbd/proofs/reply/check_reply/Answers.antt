use Rattle.std.proofs.Common.{◌∙◌, arith}
use Rattle.turn_nbd.proofs.Replies.{success_of}
use Rattle.turn_nbd.proofs.reply.check_reply.Goals as goal

pub returns-then-differ-3 : goal.returns-then-differ-3
returns-then-differ-3 c = (c.if-differ.ensures, c.if-differ-2.ensures ∙ c.to_be_bytes.ensures, c.if-differ-3.ensures)

pub returns : goal.returns
returns c = success_of c.args.bytes.now c.args.cookie (omega arith) c.if-differ.ensures c.if-differ-3.ensures (c.if-differ-2.ensures ∙ c.to_be_bytes.ensures)
