-- Snapshots of fitting histories.
use Rattle.std.proofs.Common.{◌≡◌, ◌≤◌, ℕ, List, [], ◌++◌, length, sym, ap, ◌∙◌, subst}
use Rattle.turn_history.specs.Prelude.{History, Contents, table, Bounds}
use Rattle.turn_record.specs.Prelude.{EncodesSnapshot, max_snapshot}
use Rattle.turn_store.specs.Prelude.{Snapshot, Encodes, Version}
use Rattle.turn_store.proofs.Encoding.{of_encoded}
use Rattle.turn_types.specs.Prelude.{AreInRange}
use Rattle.turn_record.proofs.Snapshots.{one_snapshot}
use Rattle.turn_record.proofs.Histories.{table_has_snapshot}
use Rattle.turn_record.proofs.SnapshotSizes.{snapshot_at_most}

-- the snapshot of what is encoded
pub front_is : (v : Version) (b : Bounds) (h : History) (c : ℕ) (bytes : List ℕ) (payloads : List (List ℕ)) (s : Encodes v b h c bytes payloads) → EncodesSnapshot v b s.moment (table s.before s.moment) bytes
front_is v b h c bytes payloads s = record { fits = table_has_snapshot v b s.before s.moment (of_encoded v b h c bytes payloads s).0 s.late s.in_range s.holds; is = s.is_snapshot }

pub front_short : (v : Version) (b : Bounds) (h : History) (c : ℕ) (bytes : List ℕ) (payloads : List (List ℕ)) → Encodes v b h c bytes payloads → length bytes ≤ max_snapshot v b
front_short v b h c bytes payloads s =
    let front = front_is v b h c bytes payloads s in
    subst (λ (l : List ℕ). length l ≤ max_snapshot v b) (sym front.is) (snapshot_at_most v b s.moment (table s.before s.moment) front.fits.at)

-- bytes encode one table at one moment
pub encoded_once : (v : Version) (b : Bounds) → AreInRange b → (s t : Snapshot) (bytes : List ℕ) → EncodesSnapshot v b s.moment s.contents bytes → EncodesSnapshot v b t.moment t.contents bytes → s ≡ t
encoded_once v b range s t bytes first second =
    let same = one_snapshot v b range s.moment t.moment s.contents t.contents [] [] first.fits second.fits (ap (λ (l : List ℕ). l ++ []) (sym first.is ∙ second.is)) in
    ap (λ (m : ℕ). record { moment = m; contents = s.contents }) same.0 ∙ ap (λ (c : Contents). record { moment = t.moment; contents = c }) same.1
