use Rattle.std.proofs.Common.{◌≡◌, ◌++◌, ◌+◌, length, get_or, ap, arith, length-append, ◌∙◌}
use Rattle.std.specs.Int.{to_be_bytes, w32}
use Rattle.turn_record.proofs.Appended.{one_more, size_left}
use Rattle.turn_record.proofs.write.put_each.Goals as goal

pub put-requires : goal.put-requires
put-requires g c =
    let left = size_left (to_be_bytes w32) c.args.ips.now c.loop-ip.ip-index 0 c.loop-ip-test.true in
    record { room = omega (arith, left, c.loop-ip.invariant.room) }

pub loop-ip-preserved : goal.loop-ip-preserved
loop-ip-preserved g c =
    let ip = get_or c.args.ips.now c.loop-ip.ip-index 0 in
    let added : c.put.new.out.items ≡ c.loop-ip.out.items ++ to_be_bytes w32 ip = rw c.to_be_bytes.ensures at c.put.ensures.items in
    let size : length c.put.new.out.items ≡ length c.loop-ip.out.items + length (to_be_bytes w32 ip) = ap length added ∙ length-append c.loop-ip.out.items (to_be_bytes w32 ip) in
    let left = size_left (to_be_bytes w32) c.args.ips.now c.loop-ip.ip-index 0 c.loop-ip-test.true in
    record {
      items = one_more (to_be_bytes w32) c.args.ips.now c.loop-ip.ip-index 0 c.loop-ip.out.items c.put.new.out.items _ c.loop-ip-test.true added c.loop-ip.invariant.items;
      room = omega (arith, left, size, c.loop-ip.invariant.room, c.put.ensures.capacity);
      capacity = omega (arith, c.loop-ip.invariant.capacity, c.put.ensures.capacity);
    }
