use Rattle.std.proofs.Common.{arith}
use Rattle.turn_nbd.proofs.InPieces.{reads_more}
use Rattle.turn_nbd.proofs.pieces.+read_from.Goals as goal

pub returns-clause-wire : goal.returns-clause-wire
returns-clause-wire g t c =
    reads_more c.args.connection.now.wire c.read_piece.new.connection.wire c.read_from.new.connection.wire c.args.connection.now.cookie
    c.read_piece.new.connection.cookie c.args.at c.args.done c.min-count.result c.read_piece.new.buffer c.read_from.new.buffer (omega arith)
    c.in_ok-read_piece.ensures.wire c.in_ok-read_piece.ensures.cookie c.read_from.ensures.front c.in_ok-read_from.ensures.wire
