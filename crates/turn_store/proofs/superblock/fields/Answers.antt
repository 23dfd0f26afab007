use Rattle.turn_store.proofs.Superblocks.{fields_are}
use Rattle.turn_store.proofs.superblock.fields.Goals as goal

pub returns : goal.returns
returns c = λ area b low range is.
    fields_are c.args.bytes.now area b low range is _ _ _ _ _ _ c.from_be_bytes-area.ensures c.from_be_bytes.ensures c.from_be_bytes-2.ensures c.from_be_bytes-3.ensures c.from_be_bytes-4.ensures c.from_be_bytes-5.ensures
