-- The last element, seen through a view.
use Rattle.std.proofs.Common.{◌≡◌, ℕ, zero, suc, ◌-◌, List, [], ◌∷◌, length, map, Some, None, Ok, leb, true, ◌≤◌, refl, ap, slice_get, option_map}
use Rattle.std.proofs.lemmas.Bool.{le-leb}
use Rattle.turn_history.specs.declared.event.Event.{Event}
use Rattle.turn_history.specs.Prelude.{event_of}
use Rattle.turn_record.specs.Prelude.{moment_at, moment_after, events_of}

slice_get-map : {A B : Type 0} (f : A → B) (xs : List A) (i : ℕ) → slice_get (map f xs) i ≡ option_map f (slice_get xs i)
slice_get-map f [] i = refl
slice_get-map f (x ∷ xs) zero = refl
slice_get-map f (x ∷ xs) (suc i) = slice_get-map f xs i

pub length-map : {A B : Type 0} (f : A → B) (xs : List A) → length (map f xs) ≡ length xs
length-map f [] = refl
length-map f (x ∷ xs) = ap suc (length-map f xs)

pub last_of_map : {A B : Type 0} (f : A → B) (xs : List A) → slice_get (map f xs) (length (map f xs) - 1) ≡ option_map f (slice_get xs (length xs - 1))
last_of_map f xs = rw (length-map f xs) (slice_get-map f xs (length xs - 1))

-- a moment that isn't below the last one's
pub rises : {A : Type 0} (before : List (Event A)) (bytes : List ℕ) (m : ℕ × List ℕ) (last : Event A) → moment_at bytes ≡ Ok m → slice_get before (length before - 1) ≡ Some last → last.moment ≤ m.0
    → moment_after (events_of before) bytes ≡ Ok m
unfolding moment_after
rises before bytes m last h e le =
    let test : leb last.moment m.0 ≡ true = le-leb _ _ le in
    rw (h, last_of_map event_of before, e, test) refl

-- the first moment
pub begins : {A : Type 0} (before : List (Event A)) (bytes : List ℕ) (m : ℕ × List ℕ) → moment_at bytes ≡ Ok m → slice_get before (length before - 1) ≡ None → moment_after (events_of before) bytes ≡ Ok m
unfolding moment_after
begins before bytes m h e = rw (h, last_of_map event_of before, e) refl
