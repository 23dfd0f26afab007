-- One address more.
use Rattle.std.proofs.Common.{◌≡◌, ℕ, ◌+◌, ◌<◌, List, [], ◌∷◌, ◌++◌, length, get_or, map, take, subst, sym, Bor}
use Rattle.turn_cli.proofs.Rules.{images_after}
use Rattle.clap.specs.Walk.{Text}
use Rattle.turn_types.specs.declared.address.Endpoint.{Endpoint}
use Rattle.turn_cli.specs.Command.{IsListen}
use Rattle.turn_cli.specs.Read.{AreListen}

pub address_after : (texts : List Text) (addresses : List Endpoint) (text : Text) (address : Endpoint) → AreListen texts addresses
    → IsListen text address → AreListen (texts ++ text ∷ []) (addresses ++ address ∷ [])
address_after [] [] text address before this = (this, before)
address_after [] (a ∷ addresses) text address before this = absurd before
address_after (t ∷ texts) [] text address before this = absurd before
address_after (t ∷ texts) (a ∷ addresses) text address before this = (before.0, address_after texts addresses text address before.1 this)

pub listened_after : (texts : List (Bor Text)) (i : ℕ) (text : Bor Text) (address : Endpoint) (old new : List Endpoint) → i < length texts
    → AreListen (map (λ t. t.now) (take i texts)) old → IsListen (get_or texts i text).now address → new ≡ old ++ address ∷ []
    → AreListen (map (λ t. t.now) (take (i + 1) texts)) new
listened_after texts i text address old new inside before this added =
    let P : List Text → Type 0 = λ ts. AreListen ts new in
    let Q : List Endpoint → Type 0 = λ addresses. AreListen (map (λ t. t.now) (take i texts) ++ (get_or texts i text).now ∷ []) addresses in
    subst P (sym (images_after (λ (t : Bor Text). t.now) texts i text inside))
    (subst Q (sym added) (address_after (map (λ t. t.now) (take i texts)) old (get_or texts i text).now address before this))
