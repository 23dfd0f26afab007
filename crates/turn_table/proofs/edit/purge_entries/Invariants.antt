use Rattle.std.proofs.Common.{◌≡◌, ◌++◌, map, take, drop}
use Rattle.indexmap.specs.IndexMap.{index_map_len}
use Rattle.turn_table.specs.Prelude.{still_pair, pairs}
use Rattle.turn_table.proofs.edit.purge_entries.Given as goal

-- the entries before are purged
abbrev pub invariant-loop-i : goal.invariant-loop-i
invariant-loop-i g l =
    (index_map_len l.entries ≡ index_map_len l.fn.entries)
    × (pairs l.entries.entries ≡ map (still_pair l.moment) (take l.i (pairs l.fn.entries.entries)) ++ drop l.i (pairs l.fn.entries.entries))
