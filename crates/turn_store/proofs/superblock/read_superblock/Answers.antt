use Rattle.std.proofs.Common.{refl, ℕ, List, subst, arith}
use Rattle.turn_disk.proofs.Device.{reads_as}
use Rattle.turn_disk.specs.Prelude.{StandsAt}
use Rattle.turn_store.proofs.Superblocks.{read_is}
use Rattle.turn_store.proofs.Staged.{read_of}
use Rattle.turn_store.proofs.superblock.read_superblock.Goals as goal

pub returns-in-Some : goal.returns-in-Some
returns-in-Some g c = read_of (reads_as (λ e. cc) (λ e. cc) c.in_ok-bytes.ensures.reads) (λ crash_model.
    let content = (g.D.Disk.trace c.args.disk.now).now.bytes in (
      record {
        long = omega (arith, g.met.D.Disk.sized c.args.disk.now (c.read_array.ensures.reads.crash_model crash_model), c.if-size-lt-SUPERBLOCK_SIZE.false, c.size.ensures);
        addressable = c.in-Some.ensures.range.0;
        in_range = c.in-Some.ensures.range.1;
        stands = subst (λ (l : List ℕ). StandsAt 0 l content) c.in-Some.ensures.some (c.in_ok-bytes.ensures.bytes crash_model);
      },
      tt,
    ))

pub returns-in-None : goal.returns-in-None
returns-in-None g c = read_of (reads_as (λ e. cc) (λ e. cc) c.in_ok-bytes.ensures.reads) (λ crash_model.
    (tt, λ is area b has. c.in-None.ensures.none refl area b has.addressable has.in_range (read_is (g.D.Disk.trace c.args.disk.now).now.bytes _ area b c.in-None.ensures.long (c.in_ok-bytes.ensures.bytes crash_model) has.stands)))
