-- A store that was opened.
use Rattle.std.proofs.Common.{◌≡◌, ◌*◌, ◌+◌, ◌^◌, ◌<◌, ◌≤◌, ℕ, List, length, false, sym, subst}
use Rattle.turn_disk.specs.Prelude.{State, IsSettled}
use Rattle.turn_history.specs.Prelude.{History, Bounds}
use Rattle.turn_store.specs.Prelude.{Version, Form, Holds, RepresentsAt, IsChosen, IsOpened, OpensTo, Snapshot, Encodes, StoreState, form_of, HasSuperblock, least_area}
use Rattle.turn_store.proofs.NeverRefused.{replayed}
use Rattle.turn_store.proofs.Sound.{holds_once}

pub opened : {D : Type 0} (store : StoreState D) (state : State) (t : Snapshot) → IsSettled state → HasSuperblock store.area.size store.bounds state.bytes → least_area store.version store.bounds ≤ store.area.size
    → length state.bytes ≡ 64 + 2 * store.area.size → 64 + 2 * store.area.size < 2 ^ 64
    → IsChosen store.version store.bounds store.area.size store.area.start store.other store.generation store.area.end store.frames store.other_is_below t state.bytes → IsOpened store state t
opened store state t settled has room whole addressable chosen = record {
  snapshot = chosen.snapshot;
  first = chosen.first;
  payloads = chosen.payloads;
  shows = record {
    recovers = record {
      holds = record {
        settled = settled;
        active = record { is_form = record { in_range = has.in_range; room = room; addressable = addressable }; front = has.stands; whole = whole; places = chosen.places; area = chosen.area };
      };
      ends = chosen.ends;
      below = chosen.below;
      yields = chosen.yields;
    };
    frames = chosen.count;
  };
  encodes = chosen.encodes;
  replays = chosen.replays;
}

-- of what represents a history, it is that history's
pub opens_to : {D : Type 0} (form : Form) (h : History) (clock : ℕ) (store : StoreState D) (state : State) (t : Snapshot) → IsOpened store state t → store.bounds ≡ form.bounds → store.stopped ≡ false
    → RepresentsAt form h clock state.bytes → OpensTo form h clock store state t
opens_to form h clock store state t is same runs stands =
    let recovers = is.shows.recovers in
    let here : Holds store.version (form_of store) is.snapshot is.payloads state.bytes = record { start = store.area.start; other = store.other; generation = store.generation; active = recovers.holds.active; yields = recovers.yields } in
    let once = holds_once store.version stands.version (form_of store) form is.snapshot stands.snapshot is.payloads stands.payloads state.bytes here stands.holds in
    let bounds_there = subst (λ (b : Bounds). Encodes stands.version b h clock stands.snapshot stands.payloads) (sym same) stands.encodes in
    let version_there = subst (λ (v : Version). Encodes v store.bounds h clock stands.snapshot stands.payloads) (sym once.1) bounds_there in
    let snapshot_there = subst (λ (s : List ℕ). Encodes store.version store.bounds h clock s stands.payloads) (sym once.2) version_there in
    let encodes = subst (λ (ps : List (List ℕ)). Encodes store.version store.bounds h clock is.snapshot ps) (sym once.3) snapshot_there in
    record {
      same_form = once.0;
      recovers = record { snapshot = is.snapshot; payloads = is.payloads; shows = is.shows; encodes = encodes; runs = runs };
      table_is = replayed store.version store.bounds recovers.holds.active.is_form.in_range h clock is.snapshot is.payloads encodes is.first t is.encodes is.replays;
    }
