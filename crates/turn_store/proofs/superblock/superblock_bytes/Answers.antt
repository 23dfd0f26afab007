use Rattle.std.proofs.Common.{ap, ◌∙◌}
use Rattle.turn_store.specs.Prelude.{superblock}
use Rattle.turn_store.proofs.Superblocks.{laid}
use Rattle.turn_store.proofs.superblock.superblock_bytes.Goals as goal

pub returns-clause-bytes : goal.returns-clause-bytes
returns-clause-bytes c =
    laid _ _ _ _ _ _ c.args.area c.bounds-b.result c.to_be_bytes-size.ensures c.to_be_bytes-most.ensures c.to_be_bytes-perm.ensures c.to_be_bytes-chan.ensures c.to_be_bytes-acts.ensures c.to_be_bytes-name.ensures
    ∙ ap (superblock c.args.area) c.bounds-b.ensures.value
