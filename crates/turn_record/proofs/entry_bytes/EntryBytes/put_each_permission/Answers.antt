use Rattle.std.proofs.Common.{◌≡◌, ℕ, ◌+◌, ◌++◌, length, get_or, ap, arith, length-append, ◌∙◌}
use Rattle.turn_record.specs.Prelude.{permission}
use Rattle.turn_record.proofs.Appended.{one_more}
use Rattle.turn_record.proofs.entry_bytes.EntryBytes.put_each_permission.Goals as goal

pub loop-ip-preserved : goal.loop-ip-preserved
loop-ip-preserved c =
    let none : ℕ × ℕ = (0, 0) in
    let item = get_or c.args.permissions.now c.loop-ip.ip-index none in
    let added : c.put_permission.new.self ≡ c.loop-ip.self ++ permission item = c.put_permission.ensures in
    let size : length c.put_permission.new.self ≡ length c.loop-ip.self + 12 = ap length added ∙ length-append c.loop-ip.self (permission item) in
    record {
      items = one_more permission c.args.permissions.now c.loop-ip.ip-index none c.loop-ip.self c.put_permission.new.self _ c.loop-ip-test.true added c.loop-ip.invariant.items;
      room = omega (arith, size, c.loop-ip.invariant.room, c.loop-ip-test.true);
    }
