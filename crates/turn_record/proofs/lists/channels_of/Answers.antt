use Rattle.std.proofs.Common.{◌≡◌, ℕ, List, true, arith, nat_cmp}
use Rattle.std.specs.FinMap as fin
use Rattle.turn_history.specs.declared.channel.Channel.{Channel}
use Rattle.turn_record.specs.Prelude.{channel_list_at}
use Rattle.turn_record.proofs.Batches.{found}
use Rattle.turn_record.proofs.Tables.{codec_channel_list, sorted_list}
use Rattle.turn_record.proofs.lists.channels_of.Goals as goal

pub returns-clause-sorted : goal.returns-clause-sorted
unfolding channel_list_at
returns-clause-sorted g c =
    let range = rw c.bounds-bounds.ensures.value at c.bounds-bounds.ensures.range in
    found (λ x. (x.0.items, x.1.now)) c.list_of.result (channel_list_at c.args.limits c.args.moment c.args.bytes.now) (λ (x : List (ℕ × Channel) × List ℕ). fin.is_sorted nat_cmp x.0 ≡ true)
    (sorted_list _ ((codec_channel_list {U = Unit {0}} c.args.limits (λ under. range) c.args.moment (λ under. omega (arith, c.seconds-now.ensures.range))).reads tt) c.args.bytes.now (λ i. omega (arith, c.type_inv.bytes i))) (rw c.channels.ensures.value at c.list_of.ensures)
