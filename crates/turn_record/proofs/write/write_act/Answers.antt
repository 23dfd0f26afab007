use Rattle.std.proofs.Common.{arith}
use Rattle.turn_history.specs.Prelude.{act_of}
use Rattle.turn_record.proofs.Sizes.{act_at_most}
use Rattle.turn_record.proofs.write.write_act.Goals as goal

pub put_act-requires-clause-room : goal.put_act-requires-clause-room
put_act-requires-clause-room g c =
    let size = act_at_most c.args.version c.args.limits (record { moment = c.args.moment; tuple = c.args.five_tuple; act = act_of c.args.act.now }) c.requires.writes c.requires.range in
    omega (arith, size, c.in_ok-reserve.ensures)
