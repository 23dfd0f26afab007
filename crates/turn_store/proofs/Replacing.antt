-- How a snapshot is put into the other area, step by step.
use Rattle.std.proofs.Common.{◌≡◌, ◌⊎◌, inl, inr, ℕ, ◌+◌, ◌<◌, List, [], ◌∷◌, ◌++◌, Result, Ok, Err, true, length, subst, arith}
use Rattle.turn_disk.specs.Prelude.{EachImageSince, StandsAt, State, Trace, WritesOnce}
use Rattle.turn_disk.proofs.Since.{since_join}
use Rattle.turn_journal.specs.Frames.{IsClosed}
use Rattle.turn_store.specs.Prelude.{Version, Form, Holds, HoldsAt, RecoversToParts, area_front, Leaves, Replaces}
use Rattle.turn_store.proofs.Staged.{stages_first_at, stages_join}
use Rattle.turn_store.proofs.Steps.{length-front}

module _ (v w : Version) (form : Form) (start gate generation : ℕ) (snapshot next : List ℕ) (payloads : List (List ℕ)) where
  -- what was there
  abbrev Before : List ℕ → Type 0
  Before = Holds v form snapshot payloads

  -- that, or the new snapshot alone
  abbrev Either : List ℕ → Type 0
  Either image = Holds v form snapshot payloads image ⊎ Holds w form next [] image

  abbrev Stays : State → Type 0
  Stays state = HoldsAt v form start gate generation snapshot payloads state × IsClosed gate state.bytes

  -- the gate could not be closed
  pub closing : {A E : Type 0} (old new : Trace) (e : E) → EachImageSince old new Before → Replaces {A = A} v w form start gate generation snapshot next payloads old new (Err e)
  closing old new e since = record { stages = stages_first_at gate old new Before Either (λ image holds. inl holds) since; done = tt }

  module _ {A E : Type 0} (front : List ℕ) (room : 14 + length next < form.area) (front_is : front ≡ area_front w (generation + 1) next ++ 0 ∷ []) (old closed filled : Trace)
      (x : A) (closes : Leaves {A = A} {E = E} old closed Before Stays (Ok x)) (r : Result A E)
      (fills : length front < form.area → HoldsAt v form start gate generation snapshot payloads closed.now → IsClosed gate closed.now.bytes
      → Leaves closed filled Before (λ state. HoldsAt v form start gate generation snapshot payloads state × IsClosed gate state.bytes × StandsAt (gate + 1) front state.bytes) r) where
    its : Leaves closed filled Before (λ state. HoldsAt v form start gate generation snapshot payloads state × IsClosed gate state.bytes × StandsAt (gate + 1) front state.bytes) r
    its = fills (omega (arith, length-front w (generation + 1) next front front_is, room)) closes.done.0 closes.done.1

    -- the area could not be filled
    pub filling : (e : E) → Replaces {A = A} v w form start gate generation snapshot next payloads old filled (Err e)
    filling e = closing old filled e (since_join old closed filled Before closes.stop its.stop)

    -- it was filled, and the gate was opened, or not
    pub switching : (y : A) → r ≡ Ok y → (new : Trace) (opened : Result A E)
        → (HoldsAt v form start gate generation snapshot payloads filled.now → StandsAt (gate + 1) (area_front w (generation + 1) next ++ 0 ∷ []) filled.now.bytes
        → Leaves filled new Either (RecoversToParts w form gate start (generation + 1) (14 + length next) true next []) opened)
        → WritesOnce gate 1 filled new → Replaces v w form start gate generation snapshot next payloads old new opened
    switching y is new opened opens once =
        let there = (subst (Leaves closed filled Before (λ state. HoldsAt v form start gate generation snapshot payloads state × IsClosed gate state.bytes × StandsAt (gate + 1) front state.bytes)) is its).done in
        let leaves = opens there.0 (subst (λ (f : List ℕ). StandsAt (gate + 1) f filled.now.bytes) front_is there.2) in
        record { stages = stages_join gate old filled new Before Either (since_join old closed filled Before closes.stop its.stop) (inr there.0.settled) leaves.stop once; done = leaves.done }
