-- Sockets of addresses: those that are bound at them, and those that a test finds at them.
use Rattle.std.proofs.Common.{arith, ◌≡◌, ◌<◌, ◌&&◌, ℕ, zero, suc, Bool, true, nat_eq, List, [], ◌∷◌, All, Contains, length, get_or, set, refl, sym, ◌∙◌, subst, inl, inr, ⊎_elim}
use Rattle.std.specs.List.{list_all, list_any}
use Rattle.std.proofs.lemmas.Bool.{and_parts}
use Rattle.std.proofs.lemmas.List.Elements.{All-contains_itself}
use Rattle.turn_types.specs.declared.address.Endpoint.{Endpoint}
use Rattle.turn_sockets.proofs.Listened.{among}
use Rattle.turn_sockets.specs.Own.{are_at}
use Rattle.turn_serving.specs.Listening.{AreBoundFor, HasSockets, IsBoundFor}

each_passes : {X : Type 0} (p : X → Bool) (xs : List X) → list_all p xs ≡ true → All (λ x. p x ≡ true) xs
each_passes p [] all k d lt = absurd (omega arith)
each_passes p (x ∷ xs) all zero d lt = (and_parts (p x) (list_all p xs) all).0
each_passes p (x ∷ xs) all (suc k) d lt = each_passes p xs (and_parts (p x) (list_all p xs) all).1 k d (omega arith)

all_among : (some others : List Endpoint) → list_all (λ s. list_any (λ a. nat_eq a.ip s.ip && nat_eq a.port s.port) others) some ≡ true → All (λ s. Contains others s) some
all_among some others all k d lt = among others (get_or some k d) (each_passes (λ s. list_any (λ a. nat_eq a.ip s.ip && nat_eq a.port s.port) others) some all k d lt)

pub found_sockets : (sockets addresses : List Endpoint) → are_at sockets addresses ≡ true → HasSockets sockets addresses
found_sockets sockets addresses found =
    let parts = and_parts (list_all (λ s. list_any (λ a. nat_eq a.ip s.ip && nat_eq a.port s.port) addresses) sockets) (list_all (λ a. list_any (λ s. nat_eq s.ip a.ip && nat_eq s.port a.port) sockets) addresses) found in
    record { known = all_among sockets addresses parts.0; each = all_among addresses sockets parts.1 }

pub bound_sockets : (sockets addresses : List Endpoint) → sockets ≡ addresses → HasSockets sockets addresses
bound_sockets sockets addresses same =
    subst (λ (found : List Endpoint). HasSockets found addresses) (sym same) (record { known = All-contains_itself addresses; each = All-contains_itself addresses })

-- ---- What is bound for an address

bound_again : (asked middle at : Endpoint) → IsBoundFor asked middle → IsBoundFor middle at → IsBoundFor asked at
bound_again asked middle at first second =
    (second.0 ∙ first.0, ⊎_elim (λ any. inl any) (λ same. ⊎_elim (λ any. inl (sym same ∙ any)) (λ kept. inr (kept ∙ same)) second.1) first.1)

pub bound_same : (addresses : List Endpoint) → AreBoundFor addresses addresses
bound_same [] = tt
bound_same (a ∷ rest) = ((refl, inr refl), bound_same rest)

pub bound_one_for : (asked middle : List Endpoint) (place : ℕ) (at d : Endpoint) → AreBoundFor asked middle → place < length middle → IsBoundFor (get_or middle place d) at → AreBoundFor asked (set middle place at)
bound_one_for [] [] place at d are lt is = tt
bound_one_for [] (m ∷ ms) place at d are lt is = absurd are
bound_one_for (a ∷ rest) [] place at d are lt is = absurd are
bound_one_for (a ∷ rest) (m ∷ ms) zero at d are lt is = (bound_again a m at are.0 is, are.1)
bound_one_for (a ∷ rest) (m ∷ ms) (suc place) at d are lt is = (are.0, bound_one_for rest ms place at d are.1 (omega arith) is)
