use Rattle.std.proofs.Common.{◌≡◌, ◌+◌, ◌++◌, length, get_or, ap, arith, length-append, ◌∙◌}
use Rattle.turn_record.specs.Prelude.{channel}
use Rattle.turn_record.proofs.Appended.{one_more}
use Rattle.turn_record.proofs.entry_bytes.EntryBytes.put_each_channel.Goals as goal

pub loop-number-preserved : goal.loop-number-preserved
loop-number-preserved c =
    let other = c.loop-number-item.result in
    let item = get_or c.args.channels.now c.loop-number.number-index other in
    let added : c.put_channel.new.self ≡ c.loop-number.self ++ channel item = c.put_channel.ensures ∙ ap (λ s. c.loop-number.self ++ channel s) c.loop-number-item.is in
    let size : length c.put_channel.new.self ≡ length c.loop-number.self + 16 = ap length added ∙ length-append c.loop-number.self (channel item) in
    record {
      items = one_more channel c.args.channels.now c.loop-number.number-index other c.loop-number.self c.put_channel.new.self _ c.loop-number-test.true added c.loop-number.invariant.items;
      room = omega (arith, size, c.loop-number.invariant.room, c.loop-number-test.true);
    }
