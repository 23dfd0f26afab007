use Rattle.std.proofs.Common.{map}
use Rattle.turn_cli.proofs.Called.{called_by}
use Rattle.turn_cli.proofs.command.called.Goals as goal

pub returns-clause-called : goal.returns-clause-called
returns-clause-called g c =
    called_by c.read.result c.args.synopses.now (map g.S.AsStr.text c.args.words.now) c.in_ok-matches.matches c.in_ok-found.found _
    c.in_ok-program.ensures c.in_ok-matches.ensures c.in_ok-found.ensures c.read.ensures.read
