-- What an arrival makes of what a server keeps and recovers to.
use Rattle.std.proofs.Common.{◌≡◌, ◌≤◌, ◌<◌, ◌+◌, inl, inr, ℕ, zero, suc, Bool, false, List, ◌++◌, length, take, drop, Option, Some, None, refl, sym, ap, ◌∙◌, subst, arith, length-append, IfSome}
use Rattle.std.proofs.Math.Nat.{eq-or-lt_of_le}
use Rattle.std.proofs.lemmas.List.{map-append, take-append-le, drop-append-le}
use Rattle.std.specs.List.{AllByRecursion}
use Rattle.turn_disk.specs.Disk as disks
use Rattle.turn_history.specs.Prelude.{IsFitting, Event, History, clock, AllFrom, ReservesNone, FiveTuple, Bounds}
use Rattle.turn_record.proofs.Kept.{holds-purged, holds-applied}
use Rattle.turn_record.specs.Bytes as bytes
use Rattle.turn_record.specs.Prelude.{Holds, Writes}
use Rattle.turn_store.specs.Prelude.{Version, V1, V2, RecoversToAt}
use Rattle.turn_step.specs.Prelude.{Change, added, CountsOne, IsAfter, IsPurged, KeepsSetting, MachineState, changed}
use Rattle.turn_table.specs.Prelude.{State, Agrees}
use Rattle.turn_types.specs.Prelude.{Config}
use Rattle.turn_engine.specs.Prelude.{RecoversTo, tuples_of, ServerState, has_pairs, now_of}
use Rattle.turn_engine.specs.State.{IsSound}
use Rattle.turn_engine.proofs.Lists.{all-append, added_few, added_from}

-- ---- What a server keeps

holds_later : (v : Version) (t : ℕ) (old new : State) → old.moment ≤ t → IsPurged t old new → Holds v old.contents → Holds v new.contents
holds_later v t old new le later is = elim (eq-or-lt_of_le le) [
  | inl e ↦ subst (Holds v) (sym (later.same e)) is
  | inr lt ↦ subst (Holds v) (sym (later.later lt)) (holds-purged v t old.contents is)
]

pub sound_later : (b limits store batch : Bounds) (v staged : Version) (acts arrivals t : ℕ) (before after : Bool) (old new : State) → old.moment ≤ t → IsPurged t old new → limits ≡ b
    → after ≡ before → IsSound b store batch v staged acts arrivals before old → IsSound limits store batch v staged acts arrivals after new
sound_later b limits store batch v staged acts arrivals t before after old new le later same pairs s =
    subst (λ (x : Bounds). IsSound x store batch v staged acts arrivals after new) (sym same) (record {
      store_is = s.store_is;
      batch_is = s.batch_is;
      table_is = later.bounds ∙ s.table_is;
      few = s.few;
      capped = s.capped;
      same_version = s.same_version;
      pairs_is = pairs ∙ s.pairs_is;
      holds = holds_later v t old new le later s.holds;
    })

holds_changed : (v : Version) (old : State) (change : Option Change) → IfSome change (λ c. Writes v c.act) → Holds v old.contents → Holds v (changed old change).contents
holds_changed v old None writes is = is
holds_changed v old (Some c) writes is = holds-applied v old.moment c.tuple c.act old.contents writes is

bounds_changed : (old : State) (change : Option Change) → (changed old change).bounds ≡ old.bounds
bounds_changed old None = refl
bounds_changed old (Some c) = refl

pub moment_changed : (old : State) (change : Option Change) → (changed old change).moment ≡ old.moment
moment_changed old None = refl
moment_changed old (Some c) = refl

pub sound_changed : (b limits store batch larger : Bounds) (v staged after_staged : Version) (acts more arrivals t : ℕ) (before after : Bool) (old new : State) (change : Option Change) → new ≡ changed old change
    → IfSome change (λ c. Writes v c.act) → limits ≡ b → after ≡ before → larger ≡ batch → after_staged ≡ staged → more ≡ acts + length (added t change) → arrivals < b.acts
    → IsSound b store batch v staged acts arrivals before old → IsSound limits store larger v after_staged more (arrivals + 1) after new
sound_changed b limits store batch larger v staged after_staged acts more arrivals t before after old new change is writes same pairs same_batch same_staged count room s =
    let few = s.few in
    let one = added_few t change in
    subst (λ (x : Bounds). IsSound x store larger v after_staged more (arrivals + 1) after new) (sym same) (record {
      store_is = s.store_is;
      batch_is = same_batch ∙ s.batch_is;
      table_is = ap (λ (x : State). x.bounds) is ∙ bounds_changed old change ∙ s.table_is;
      few = omega arith;
      capped = omega arith;
      same_version = same_staged ∙ s.same_version;
      pairs_is = pairs ∙ s.pairs_is;
      holds = subst (λ (x : State). Holds v x.contents) (sym is) (holds_changed v old change writes s.holds);
    })

pub counts_same : (old mid new : ℕ) → CountsOne old mid → new ≡ mid → CountsOne old new
counts_same old mid new counts same = subst (λ (n : ℕ). CountsOne old n) (sym same) counts

pub keeps_both : {H G : Type 0} (range : G → ℕ × ℕ) (old mid new : MachineState H G) → KeepsSetting range old mid → KeepsSetting range mid new → KeepsSetting range old new
keeps_both range old mid new first second = record {
  config = second.config ∙ first.config;
  handler = second.handler ∙ first.handler;
  range_is = second.range_is ∙ first.range_is;
  pairs = second.pairs ∙ first.pairs;
}

-- ---- What it recovers to

pub after_same : {H G : Type 0} (m n : MachineState H G) (h : History) → n.config ≡ m.config → n.table ≡ m.table → IsAfter m h → IsAfter n h
after_same m n h config table after = record {
  fitting = subst (λ (c : Config). IsFitting c.limits h) (sym config) after.fitting;
  late = subst (λ (s : State). clock h ≤ s.moment) (sym table) after.late;
  agrees = subst (λ (s : State). Agrees s h) (sym table) after.agrees;
}

-- a server whose machine alone is another, at a later moment
pub recovers_later : {D H G : Type 0} (state : disks.State) (old new : ServerState D H G) (h : History) (k : ℕ) → RecoversTo state old h k → new.store ≡ old.store → new.payload ≡ old.payload
    → new.acts ≡ old.acts → new.tuples ≡ old.tuples → new.since ≡ old.since → now_of old ≤ now_of new → IsAfter new.machine h → RecoversTo state new h k
recovers_later state old new h k recovers store payload acts tuples since le after =
    let late = recovers.at_late in
    let first = recovers.since in
    record {
      after = after;
      within = recovers.within;
      at = recovers.at;
      at_late = omega arith;
      stored = subst (λ s. RecoversToAt s state recovers.at (take k h)) (sym store) recovers.stored;
      staged = payload ∙ recovers.staged;
      counted = acts ∙ recovers.counted;
      tuples = tuples ∙ recovers.tuples;
      since = omega arith;
      from = recovers.from;
      writes = subst (λ s. AllByRecursion (λ (e : Event). Writes s.version e.act) (drop k h)) (sym store) recovers.writes;
    }

-- a change that reserves no port where none may be reserved is one that the version can hold
pub written_by : (v : Version) (pairs : Bool) (change : Option Change) → pairs ≡ has_pairs v → (pairs ≡ false → IfSome change (λ c. ReservesNone c.act)) → IfSome change (λ c. Writes v c.act)
written_by V1 pairs change is none = none is
written_by V2 pairs None is none = tt
written_by V2 pairs (Some c) is none = tt

added_writes : (v : Version) (t : ℕ) (change : Option Change) → IfSome change (λ c. Writes v c.act) → AllByRecursion (λ e. Writes v e.act) (added t change)
added_writes v t None writes = tt
added_writes v t (Some c) writes = (writes, tt)

-- a server that took an arrival
pub recovers_taken : {D H G : Type 0} (state : disks.State) (old new : ServerState D H G) (h : History) (k t : ℕ) (change : Option Change) → RecoversTo state old h k → new.store ≡ old.store
    → ((es : List Event) → old.payload ≡ bytes.payload es → new.payload ≡ bytes.payload (es ++ added t change)) → new.acts ≡ old.acts + length (added t change)
    → new.tuples ≡ old.tuples ++ tuples_of (added t change) → new.since ≤ t → now_of old ≤ t → now_of new ≡ t → IfSome change (λ c. Writes old.store.version c.act) → IsAfter new.machine (h ++ added t change) → RecoversTo state new (h ++ added t change) k
recovers_taken state old new h k t change recovers store payload acts tuples since le now writes after =
    let more = added t change in
    let late = recovers.at_late in
    let within = recovers.within in
    let longer : length (h ++ more) ≡ length h + length more = length-append h more in
    let front : take k (h ++ more) ≡ take k h = take-append-le k h more recovers.within in
    let rest : drop k (h ++ more) ≡ drop k h ++ more = drop-append-le k h more recovers.within in
    let counted = recovers.counted in
    let count : length (drop k h ++ more) ≡ length (drop k h) + length more = length-append (drop k h) more in
    let sum : new.acts ≡ length (drop k h ++ more) = omega arith in
    record {
      after = after;
      within = omega arith;
      at = recovers.at;
      at_late = omega arith;
      stored = subst (λ s. RecoversToAt s state recovers.at (take k (h ++ more))) (sym store) (subst (λ (l : History). RecoversToAt old.store state recovers.at l) (sym front) recovers.stored);
      staged = payload (drop k h) recovers.staged ∙ ap bytes.payload (sym rest);
      counted = sum ∙ ap (λ (l : History). length l) (sym rest);
      tuples = tuples ∙ ap (λ (l : List FiveTuple). l ++ tuples_of more) recovers.tuples ∙ sym (map-append (λ (e : Event). e.tuple) (drop k h) more) ∙ ap tuples_of (sym rest);
      since = omega arith;
      from = subst (AllFrom recovers.at) (sym rest) (all-append (λ (e : Event). recovers.at ≤ e.moment) (drop k h) more recovers.from (added_from recovers.at t change (omega arith)));
      writes = subst (λ s. AllByRecursion (λ (e : Event). Writes s.version e.act) (drop k (h ++ more))) (sym store) (subst (AllByRecursion (λ (e : Event). Writes old.store.version e.act)) (sym rest)
          (all-append (λ (e : Event). Writes old.store.version e.act) (drop k h) more recovers.writes (added_writes old.store.version t change writes)));
    }

-- ---- The first arrival that is staged

pub old_late : {since inside now t : ℕ} → now ≤ t → inside ≡ since → since ≤ now → inside ≤ t
old_late le is late = omega (arith, le, is, late)

pub first_late : (arrivals since t first : ℕ) → (arrivals ≡ 0 → first ≡ t) → (1 ≤ arrivals → first ≡ since) → since ≤ t → first ≤ t
first_late zero since t first none some late = let is = none refl in omega arith
first_late (suc n) since t first none some late = let is = some (omega arith) in omega arith
