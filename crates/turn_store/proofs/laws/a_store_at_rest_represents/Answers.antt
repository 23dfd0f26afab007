use Rattle.turn_store.proofs.Rows.{recovers_image}
use Rattle.turn_store.specs.Prelude.{form_of}
use Rattle.turn_store.proofs.Versions.{shown_in}
use Rattle.turn_store.proofs.laws.a_store_at_rest_represents.Goals as goal

pub returns-clause-stands : goal.returns-clause-stands
returns-clause-stands g c = λ store state at h recovers image is. record {
  version = store.version;
  snapshot = recovers.snapshot;
  payloads = recovers.payloads;
  holds = recovers_image store.version (form_of store) store.area.start store.other store.generation store.area.end store.other_is_below recovers.snapshot recovers.payloads state recovers.shows.recovers image is;
  encodes = recovers.encodes;
}

pub returns-clause-version : goal.returns-clause-version
returns-clause-version g c = λ store state at h recovers. shown_in store state recovers.snapshot recovers.payloads recovers.shows
