-- Five-tuples that are equal.
use Rattle.std.proofs.Common.{◌≡◌, Bool, ◌&&◌, eqb, true, refl, sym, ap, ◌∙◌, Ordering, Less, Equal, Greater}
use Rattle.std.specs.Ordering.{is_eq, nat_cmp, ordering_then}
use Rattle.std.specs.Cmp.{eq_by_cmp_equiv}
use Rattle.std.proofs.lemmas.Cmp.{tied_itself}
use Rattle.turn_history.proofs.Maps.{from_eq, tuple_exact, tuple_total}
use Rattle.turn_history.proofs.Reading.{nat_same}
use Rattle.turn_types.specs.Prelude.{endpoint_cmp, tuple_cmp, same_tuple}
use Rattle.turn_types.specs.declared.address.Endpoint.{Endpoint}
use Rattle.turn_types.specs.declared.address.FiveTuple.{FiveTuple}

-- the test by `==`
abbrev pub endpoint_eq : Endpoint → Endpoint → Bool
endpoint_eq a b = eqb a.ip b.ip && eqb a.port b.port

abbrev pub tuple_eq : FiveTuple → FiveTuple → Bool
tuple_eq f g = endpoint_eq f.client g.client && endpoint_eq f.server g.server

then_eq : (a b : Ordering) → is_eq (ordering_then a b) ≡ (is_eq a && is_eq b)
then_eq Less b = refl
then_eq Equal b = refl
then_eq Greater b = refl

endpoint_same : (a b : Endpoint) → is_eq (endpoint_cmp a b) ≡ endpoint_eq a b
endpoint_same a b = then_eq (nat_cmp a.ip b.ip) (nat_cmp a.port b.port) ∙ (λ j. nat_same a.ip b.ip j && nat_same a.port b.port j)

-- is that of the order
pub tuple_same : (f g : FiveTuple) → same_tuple f g ≡ tuple_eq f g
tuple_same f g =
    then_eq (endpoint_cmp f.client g.client) (endpoint_cmp f.server g.server)
    ∙ (λ j. endpoint_same f.client g.client j && endpoint_same f.server g.server j)

pub tuple_same_back : (f g : FiveTuple) → tuple_eq f g ≡ same_tuple g f
tuple_same_back f g = sym (tuple_same f g) ∙ (eq_by_cmp_equiv tuple_total).symm f g

pub itself : (f : FiveTuple) → same_tuple f f ≡ true
itself f = ap is_eq (tied_itself tuple_total f)

pub same_tuple-is : (f g : FiveTuple) → same_tuple f g ≡ true → f ≡ g
same_tuple-is f g h = from_eq tuple_cmp tuple_exact f g h
