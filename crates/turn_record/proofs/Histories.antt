-- The tables of fitting histories have snapshots.
use Rattle.std.specs.Prelude.{ℕ, ◌<◌, ◌≤◌}
use Rattle.std.specs.List.{AllByRecursion}
use Rattle.turn_history.specs.Prelude.{IsFitting, History, clock, table, Bounds}
use Rattle.turn_history.proofs.Channels.{peers-apart}
use Rattle.turn_history.proofs.Histories.{ports-apart}
use Rattle.turn_history.proofs.Ranges.{entry_in_range}
use Rattle.turn_history.proofs.Reserved.{reservations_in_range, reserved-apart}
use Rattle.turn_history.proofs.Sizes.{tables-within}
use Rattle.turn_history.proofs.Tokens.{all}
use Rattle.turn_record.specs.Prelude.{Holds, IsSnapshot, Writes}
use Rattle.turn_record.specs.declared.version.Version.{Version}
use Rattle.turn_record.specs.declared.version.Version.TheVariants.{V1, V2}
use Rattle.turn_types.specs.Prelude.{end_of_moments}

pub table_has_snapshot : (v : Version) (b : Bounds) (h : History) (t : ℕ) → IsFitting b h → clock h ≤ t → t < end_of_moments → Holds v (table h t) → IsSnapshot v b t (table h t)
table_has_snapshot v b h t fits now moment holds = record {
  at = record {
    moment = moment;
    values = λ f e is. entry_in_range b h t f e fits now is;
    reserved = reservations_in_range b h t fits now;
    reserved_apart = reserved-apart b h t fits now;
    within = tables-within b h t fits now;
    ports = ports-apart b h t fits now;
    peers = peers-apart b h t fits now;
  };
  holds = holds;
}

-- a version that can hold the acts can hold the table
pub table_is_held : (v : Version) (b : Bounds) (h : History) (t : ℕ) → IsFitting b h → clock h ≤ t → AllByRecursion (λ e. Writes v e.act) h → Holds v (table h t)
table_is_held V1 b h t fits now writes = all b h t fits now writes
table_is_held V2 b h t fits now writes = tt
