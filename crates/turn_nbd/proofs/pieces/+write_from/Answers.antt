use Rattle.std.proofs.Common.{arith}
use Rattle.turn_disk.proofs.Passing.{passes_join, passes_none}
use Rattle.turn_nbd.proofs.InPieces.{writes_more}
use Rattle.turn_nbd.proofs.pieces.+write_from.Goals as goal

pub returns-clause-wire : goal.returns-clause-wire
returns-clause-wire g t c =
    writes_more c.args.is_durable c.args.connection.now.wire c.write_piece.new.connection.wire c.write_from.new.connection.wire c.args.connection.now.cookie
    c.write_piece.new.connection.cookie c.args.at c.args.done c.min-count.result c.args.bytes.now (omega arith)
    c.in_ok-write_piece.ensures.wire c.in_ok-write_piece.ensures.cookie c.in_ok-write_from.ensures.wire

pub returns-clause-meanwhile : goal.returns-clause-meanwhile
returns-clause-meanwhile g t c = passes_join c.write_piece.ensures.meanwhile c.write_from.ensures.meanwhile

pub returns-in_err-write_from-clause-meanwhile : goal.returns-in_err-write_from-clause-meanwhile
returns-in_err-write_from-clause-meanwhile g t c = passes_join c.write_piece.ensures.meanwhile c.write_from.ensures.meanwhile

pub returns-then-count-eq0-clause-meanwhile : goal.returns-then-count-eq0-clause-meanwhile
returns-then-count-eq0-clause-meanwhile g t c = passes_none
