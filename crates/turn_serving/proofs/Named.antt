-- Peers that are addresses which clients send to.
use Rattle.std.proofs.Common.{◌≢◌, All, ⊎_elim, inr, subst}
use Rattle.turn_types.specs.declared.address.Endpoint.{Endpoint}
use Rattle.turn_sockets.specs.Own.{IsListening, IsNamed}
use Rattle.turn_sockets.specs.declared.own.OwnAddresses.{OwnAddresses}

pub listens : (own : OwnAddresses) (peer : Endpoint) → IsNamed own peer → IsListening own peer
listens own peer some = (some.0, some.1, some.2, some.3, (some.4.0, inr some.4.1))

-- where each address has a name
pub by_name : (own : OwnAddresses) (peer : Endpoint) → All (λ a. a.ip ≢ 0) own.listening → IsListening own peer → IsNamed own peer
by_name own peer named some =
    (some.0, some.1, some.2, some.3, (some.4.0, ⊎_elim (λ any. absurd (subst (λ (a : Endpoint). a.ip ≢ 0) some.3 (named some.0 some.1 some.2) any)) (λ same. same) some.4.1))
