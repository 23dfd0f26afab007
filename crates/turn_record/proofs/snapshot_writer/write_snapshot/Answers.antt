use Rattle.std.proofs.Common.{◌+◌, ◌≤◌, vec_len, vec_capacity, arith}
use Rattle.turn_record.proofs.snapshot_writer.write_snapshot.Goals as goal

pub returns-in_err-reserve-clause-longest : goal.returns-in_err-reserve-clause-longest
returns-in_err-reserve-clause-longest g c = λ room.
    let fits : vec_len c.args.out.now + c.snapshot_size.result ≤ vec_capacity c.args.out.now = omega (arith, room, c.args.out.now.ok, c.snapshot_size.ensures.most) in
    let bad = c.in_err-reserve.ensures.succeeds fits in
    cc
