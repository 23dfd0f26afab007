-- What a version can hold it goes on holding as events go on.
use Rattle.std.proofs.Common.{ℕ, List, [], ◌∷◌, sym, subst}
use Rattle.std.specs.List.{AllByRecursion}
use Rattle.turn_history.specs.Prelude.{Event, purged, Bounds}
use Rattle.turn_record.specs.Prelude.{Holds, Writes}
use Rattle.turn_record.proofs.Kept.{holds-purged, holds-applied}
use Rattle.turn_store.specs.Prelude.{Version, Snapshot, GoesOn, after, after_all}

next_kept : (v : Version) (s : Snapshot) (e : Event) → Writes v e.act → Holds v s.contents → Holds v (after s e).contents
next_kept v s e writes is = holds-applied v e.moment e.tuple e.act (purged e.moment s.contents) writes (holds-purged v e.moment s.contents is)

all_kept : (v : Version) (s : Snapshot) (es : List Event) → AllByRecursion (λ e. Writes v e.act) es → Holds v s.contents → Holds v (after_all s es).contents
all_kept v s [] writes is = is
all_kept v s (e ∷ es) writes is = all_kept v (after s e) es writes.1 (next_kept v s e writes.0 is)

pub goes_kept : (v : Version) (b : Bounds) (s t : Snapshot) (p : List ℕ) → GoesOn v b s p t → Holds v s.contents → Holds v t.contents
goes_kept v b s t p goes is = subst (λ (x : Snapshot). Holds v x.contents) (sym goes.ends) (all_kept v s goes.events goes.encodes.batch.writes is)
