use Rattle.turn_record.proofs.Histories.{table_has_snapshot, table_is_held}
use Rattle.turn_record.proofs.laws.tables_have_snapshots.Goals as goal

pub returns-clause-holds : goal.returns-clause-holds
returns-clause-holds c = table_has_snapshot

pub returns-clause-writes : goal.returns-clause-writes
returns-clause-writes c v b h t fits now moment writes = table_has_snapshot v b h t fits now moment (table_is_held v b h t fits now writes)
