-- A message without attributes of a type has none after an attribute of another type is added, or not.
use Rattle.std.proofs.Common.{◌≡◌, ◌≢◌, ℕ, List, [], ap, ◌∙◌, Result, Ok, Err, OnOk, OnErr}
use Rattle.turn_codec.specs.Prelude.{Content, from, with_attribute}
use Rattle.turn_codec.proofs.Finding.{none_added}

pub none_after : {X Y : Type 0} (kind other : ℕ) (value : List ℕ) (old new : Content) (result : Result X Y) → other ≢ kind
    → from kind old.attributes ≡ [] → OnOk result (new ≡ with_attribute old other value) → OnErr result (new ≡ old)
    → from kind new.attributes ≡ []
none_after kind other value old new (Ok x) h none ok err =
    ap (λ (m : Content). from kind m.attributes) ok ∙ none_added kind other value old.attributes h none
none_after kind other value old new (Err e) h none ok err = ap (λ (m : Content). from kind m.attributes) err ∙ none
