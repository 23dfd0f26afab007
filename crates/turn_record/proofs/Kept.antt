-- What has a snapshot goes on having one, as time passes and by an event that fits, and in a later version.
use Rattle.std.specs.Prelude.{ℕ, ◌<◌, ◌≤◌}
use Rattle.turn_history.specs.Prelude.{Fits, IsInRange, Event, PlainAct, Contents, purged, applied, FiveTuple, Bounds}
use Rattle.turn_history.proofs.TableAt.{at-purged, at-applied}
use Rattle.turn_history.proofs.Tokens.{acts, later}
use Rattle.turn_record.specs.Prelude.{Holds, IsSnapshot, Writes}
use Rattle.turn_record.specs.declared.version.Version.{Version}
use Rattle.turn_record.specs.declared.version.Version.TheVariants.{V1, V2}
use Rattle.turn_types.specs.Prelude.{end_of_moments}

pub holds-purged : (v : Version) (u : ℕ) (c : Contents) → Holds v c → Holds v (purged u c)
holds-purged V1 u c h = later u c h
holds-purged V2 u c h = tt

pub holds-applied : (v : Version) (t : ℕ) (f : FiveTuple) (d : PlainAct) (c : Contents) → Writes v d → Holds v c → Holds v (applied t f d c)
holds-applied V1 t f d c writes h = acts t f c h d writes
holds-applied V2 t f d c writes h = tt

pub snapshot-purged : (v : Version) (b : Bounds) (t u : ℕ) (c : Contents) → t ≤ u → u < end_of_moments → IsSnapshot v b t c → IsSnapshot v b u (purged u c)
snapshot-purged v b t u c le moment s = record { at = at-purged b t u c le moment s.at; holds = holds-purged v u c s.holds }

pub snapshot-applied : (v : Version) (b : Bounds) (e : Event) (c : Contents) → Writes v e.act → IsInRange b e → Fits b c e.tuple e.act → IsSnapshot v b e.moment c → IsSnapshot v b e.moment (applied e.moment e.tuple e.act c)
snapshot-applied v b e c writes range fits s = record { at = at-applied b e c range fits s.at; holds = holds-applied v e.moment e.tuple e.act c writes s.holds }

pub snapshot-carried : (b : Bounds) (t : ℕ) (c : Contents) → IsSnapshot V1 b t c → IsSnapshot V2 b t c
snapshot-carried b t c s = record { at = s.at; holds = tt }
