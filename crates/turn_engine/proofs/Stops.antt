-- What a stop leaves has what each image since the call began has.
use Rattle.std.proofs.Common.{◌≡◌, ◌⊎◌, ⊎_elim, inl, inr, List, [], ◌∷◌, ℕ, sym, ◌∙◌, subst}
use Rattle.std.proofs.lemmas.List.{append_cancel_right}
use Rattle.turn_disk.specs.Prelude.{State, Trace, IsImage, EachImageOf, EachImageSince, IsSettled}
use Rattle.turn_disk.proofs.Since.{image_settled}
use Rattle.turn_store.specs.Prelude.{EachImage}
use Rattle.turn_engine.specs.Prelude.{IsImageOfOne, IsLeft}

inside_has : (states : List State) (P : List ℕ → Type 0) (image : List ℕ) → EachImageOf states P → IsImageOfOne states image → P image
inside_has [] P image each one = absurd one
inside_has (state ∷ states) P image each (inl here) = each.0 image here
inside_has (state ∷ states) P image each (inr there) = inside_has states P image each.1 there

pub left_has : (old new : Trace) (P : List ℕ → Type 0) (image : List ℕ) → EachImageSince old new P → IsLeft old new image → P image
left_has old new P image since left =
    let same : left.added ≡ since.added = append_cancel_right left.added since.added old.past (sym left.past ∙ since.past) in
    ⊎_elim
    (λ before. since.before image before)
    (λ (later : IsImageOfOne left.added image ⊎ IsImage new.now image).
    ⊎_elim (λ inside. inside_has since.added P image since.inside (subst (λ (l : List State). IsImageOfOne l image) same inside)) (λ after. since.after image after) later)
    left.place

-- the only image of a disk that has it and nothing pending
pub left_alone : (state : State) (P : List ℕ → Type 0) (image : List ℕ) → state.bytes ≡ image → IsSettled state → P image → EachImage state P
left_alone state P image same settled has other is = subst P (sym (image_settled state settled other is ∙ same)) has
