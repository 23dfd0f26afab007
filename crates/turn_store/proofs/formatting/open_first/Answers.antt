use Rattle.std.proofs.Common.{List, ℕ, subst}
use Rattle.turn_disk.specs.Prelude.{WritesThrough}
use Rattle.turn_store.proofs.Formats.{formatted}
use Rattle.turn_store.proofs.Ordered.{named_since, opened_since}
use Rattle.turn_store.proofs.formatting.open_first.Goals as goal

pub returns-clause-done : goal.returns-clause-done
returns-clause-done g c = λ crash_model v room laid.
    let before = c.write_through-2.ensures.uses.crash_model crash_model in
    let named = (g.D.Disk.trace c.write_through.new.disk).now in
    formatted v (record { bounds = c.args.limits; area = c.args.area }) _ named _
    (record { in_range = c.superblock_bytes-superblock.ensures.range; room = room; addressable = c.requires.addressable }) c.requires.room laid
    (subst (λ (l : List ℕ). WritesThrough 0 l (g.D.Disk.trace c.args.disk.now).now named) c.superblock_bytes-superblock.ensures.bytes (c.in_ok-write_through.ensures.done before)) (c.in_ok-write_through-2.ensures.done crash_model)

pub returns-in_err-write_through-clause-stop : goal.returns-in_err-write_through-clause-stop
returns-in_err-write_through-clause-stop g c = λ crash_model v room laid.
    named_since v _ _ c.requires.room laid _ _ _ c.superblock_bytes-superblock.ensures.bytes (c.write_through.ensures.stop crash_model laid.settled)

pub returns-in_err-write_through-2-clause-stop : goal.returns-in_err-write_through-2-clause-stop
returns-in_err-write_through-2-clause-stop g c = λ crash_model v room laid.
    let before = c.write_through-2.ensures.uses.crash_model crash_model in
    let wrote = c.in_ok-write_through.ensures.done before in
    opened_since v _ _ c.requires.room laid _ _ _ _ c.superblock_bytes-superblock.ensures.bytes (record { in_range = c.superblock_bytes-superblock.ensures.range; room = room; addressable = c.requires.addressable })
    (c.write_through.ensures.stop before laid.settled) wrote (c.write_through-2.ensures.stop crash_model wrote.settled)

pub returns-clause-stop : goal.returns-clause-stop
returns-clause-stop g c = λ crash_model v room laid.
    let before = c.write_through-2.ensures.uses.crash_model crash_model in
    let wrote = c.in_ok-write_through.ensures.done before in
    opened_since v _ _ c.requires.room laid _ _ _ _ c.superblock_bytes-superblock.ensures.bytes (record { in_range = c.superblock_bytes-superblock.ensures.range; room = room; addressable = c.requires.addressable })
    (c.write_through.ensures.stop before laid.settled) wrote (c.write_through-2.ensures.stop crash_model wrote.settled)
