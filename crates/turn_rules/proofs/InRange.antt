-- The values that a request names are in range.
use Rattle.std.proofs.Common.{◌≡◌, ◌⊎◌, inl, inr, ℕ, ◌^◌, ◌≤◌, ◌<◌, true, false, not, ◌&&◌, is_some, is_none, arith, List, [], ◌∷◌, ◌++◌, length, length-take, length-drop, take, drop, get_or, refl, subst, Option, Some, None, ◌==◌, if◌then◌else◌, filter, map, nat_eq, nat_lt, slice_index, All, IfSome, bit_xor, option_and_then}
use Rattle.std.specs.Int.{w16, w32, w128, from_be_bytes, to_be_bytes}
use Rattle.std.specs.List.{IsDistinct, flat_map, list_any}
use Rattle.std.proofs.lemmas.Bool.{and_parts, cases_Bool, cond_both, eqb-true, ltb-false, ltb-true}
use Rattle.std.proofs.lemmas.List.{length-map}
use Rattle.std.proofs.lemmas.List.Elements.{All-nil, All-cons, All-head, All-tail, All-append, All-filter, All-take, All-drop, All-get_or}
use Rattle.std.proofs.lemmas.Nat.{xor_lt}
use Rattle.turn_types.specs.Prelude.{IsEndpoint, default_lifetime, max_lifetime}
use Rattle.turn_history.specs.Prelude.{Addr, V4, V6, Endpoint, PeerAddress, IsLifetime}
use Rattle.turn_codec.specs.Prelude.{address_of, port_mask, message_integrity, xor_peer_address, Attribute, Content, before, cookie, value_of, is_seen, seen, seen_value, values_of}
use Rattle.turn_rules.specs.Prelude.{named_peer, each_once, granted, IsMadeOfBytes, ipv4_in, ipv4_of, is_ipv6, named_in, named_peers, named_addresses, renewed_for}
use Rattle.turn_rules.proofs.EachOnce.{once_distinct}

-- ---- Lifetimes

pub lifetime : (o : Option ℕ) → IsLifetime (granted o)
unfolding granted
lifetime None = (omega arith, omega arith)
lifetime (Some x) =
    cond_both (nat_lt max_lifetime x) max_lifetime (if nat_lt default_lifetime x then x else default_lifetime) IsLifetime (λ _. (omega arith, omega arith)) (λ most.
    cond_both (nat_lt default_lifetime x) x default_lifetime IsLifetime
    (λ least. (omega (arith, ltb-true default_lifetime x least), omega (arith, ltb-false max_lifetime x most))) (λ _. (omega arith, omega arith)))

pub renewed : (o : Option ℕ) → (renewed_for o ≡ 0) ⊎ IsLifetime (renewed_for o)
renewed None = inr (lifetime None)
renewed (Some x) = cond_both (x == 0) 0 (granted (Some x)) (λ n. (n ≡ 0) ⊎ IsLifetime n) (λ _. inl refl) (λ _. inr (lifetime (Some x)))

-- ---- Addresses

AreBytes : List ℕ → Type 0
AreBytes xs = All (λ x. x < 256) xs

byte : (xs : List ℕ) (i : ℕ) → AreBytes xs → i < length xs → get_or xs i 0 < 256
unfolding AreBytes
byte xs i bytes h = All-get_or (λ x. x < 256) xs i 0 h bytes

two_bytes : (xs : List ℕ) → AreBytes xs → length xs ≡ 2 → from_be_bytes w16 xs < 2 ^ 16
two_bytes xs bytes size =
    let a = byte xs 0 bytes (omega (arith, size)) in
    let b = byte xs 1 bytes (omega (arith, size)) in
    omega (arith, a, b)

four_bytes : (xs : List ℕ) → AreBytes xs → length xs ≡ 4 → from_be_bytes w32 xs < 2 ^ 32
four_bytes xs bytes size =
    let a = byte xs 0 bytes (omega (arith, size)) in
    let b = byte xs 1 bytes (omega (arith, size)) in
    let c = byte xs 2 bytes (omega (arith, size)) in
    let d = byte xs 3 bytes (omega (arith, size)) in
    omega (arith, a, b, c, d)

AnAddress : Addr → Type 0
AnAddress (V4 a) = a < 2 ^ 32
AnAddress (V6 a) = Unit {0}

-- a peer's values are in range
IsPeer : PeerAddress → Type 0
IsPeer p = AnAddress p.ip × (p.port < 2 ^ 16)

module _ (v tx : List ℕ) (bytes : AreBytes v) where
  port : ℕ
  port = bit_xor (from_be_bytes w16 (take 2 (drop 2 v))) port_mask

  ip : ℕ
  ip = bit_xor (from_be_bytes w32 (take 4 (drop 4 v))) cookie

  port_in_range : 8 ≤ length v → port < 2 ^ 16
  unfolding port AreBytes
  port_in_range size = xor_lt 16 (from_be_bytes w16 (take 2 (drop 2 v))) port_mask
      (two_bytes (take 2 (drop 2 v)) (All-take (λ x. x < 256) 2 (drop 2 v) (All-drop (λ x. x < 256) 2 v bytes)) (simp (length-take, length-drop) (omega arith))) (omega arith)

  ip_in_range : 8 ≤ length v → ip < 2 ^ 32
  unfolding ip AreBytes
  ip_in_range size = xor_lt 32 (from_be_bytes w32 (take 4 (drop 4 v))) cookie
      (four_bytes (take 4 (drop 4 v)) (All-take (λ x. x < 256) 4 (drop 4 v) (All-drop (λ x. x < 256) 4 v bytes)) (simp (length-take, length-drop) (omega arith))) (omega arith)

  address_in_range : IfSome (address_of v tx) IsPeer
  unfolding port ip IsPeer AnAddress
  address_in_range = cond_both ((length v == 8) && (slice_index v 1 == 1)) (Some (record { ip = V4 ip; port = port })) _ (λ o. IfSome o IsPeer)
      (λ is. let size = eqb-true (length v) 8 (and_parts (length v == 8) (slice_index v 1 == 1) is).0 in (ip_in_range (omega arith), port_in_range (omega arith)))
      (λ _. cond_both ((length v == 20) && (slice_index v 1 == 2)) (Some (record { ip = V6 ip6; port = port })) None (λ o. IfSome o IsPeer)
      (λ is. let size = eqb-true (length v) 20 (and_parts (length v == 20) (slice_index v 1 == 2) is).0 in (tt, port_in_range (omega arith))) (λ _. tt))
    where
      ip6 : ℕ
      ip6 = bit_xor (from_be_bytes w128 (take 16 (drop 4 v))) (from_be_bytes w128 (to_be_bytes w32 cookie ++ tx))

-- ---- The peers that are named

OfBytes : List Attribute → Type 0
OfBytes attributes = All (λ a. All (λ x. x < 256) a.value) attributes

before_of_bytes : (kind : ℕ) (attributes : List Attribute) → OfBytes attributes → OfBytes (before kind attributes)
unfolding OfBytes
before_of_bytes kind [] all = all
before_of_bytes kind (a ∷ others) all = cond_both (a.kind == kind) [] (a ∷ before kind others) (All (λ a. All (λ x. x < 256) a.value)) (λ _. All-nil (λ a. All (λ x. x < 256) a.value))
    (λ _. All-cons (λ a. All (λ x. x < 256) a.value) a (before kind others) (All-head (λ a. All (λ x. x < 256) a.value) a others all)
    (before_of_bytes kind others (All-tail (λ a. All (λ x. x < 256) a.value) a others all)))

value_of_bytes : (kind : ℕ) (attributes : List Attribute) → OfBytes attributes → IfSome (value_of kind attributes) AreBytes
unfolding OfBytes AreBytes
value_of_bytes kind [] all = tt
value_of_bytes kind (a ∷ others) all = cond_both (a.kind == kind) (Some a.value) (value_of kind others) (λ o. IfSome o (All (λ x. x < 256)))
    (λ _. All-head (λ a. All (λ x. x < 256) a.value) a others all) (λ _. value_of_bytes kind others (All-tail (λ a. All (λ x. x < 256) a.value) a others all))

ArePeers : List (Option PeerAddress) → Type 0
ArePeers peers = All (λ o. IfSome o IsPeer) peers

named_in_range : (tx : List ℕ) (attributes : List Attribute) → OfBytes attributes → ArePeers (named_in attributes tx)
unfolding OfBytes ArePeers AreBytes
named_in_range tx [] all = All-nil (λ o. IfSome o IsPeer)
named_in_range tx (a ∷ others) all =
    let rest = named_in_range tx others (All-tail (λ a. All (λ x. x < 256) a.value) a others all) in
    cond_both (a.kind == xor_peer_address) (a.value ∷ values_of xor_peer_address others) (values_of xor_peer_address others) (λ vs. All (λ o. IfSome o IsPeer) (map (λ v. address_of v tx) vs))
    (λ _. All-cons (λ o. IfSome o IsPeer) (address_of a.value tx) (named_in others tx) (address_in_range a.value tx (All-head (λ a. All (λ x. x < 256) a.value) a others all)) rest) (λ _. rest)

abbrev Address : ℕ → Type 0
Address x = x < 2 ^ 32

ipv4_in_range : (peers : List (Option PeerAddress)) → ArePeers peers → All Address (flat_map ipv4_in peers)
unfolding ArePeers AnAddress IsPeer
ipv4_in_range [] all = All-nil Address
ipv4_in_range (o ∷ others) all =
    All-append Address (ipv4_in o) (flat_map ipv4_in others) (of_peer o (All-head (λ o. IfSome o IsPeer) o others all)) (ipv4_in_range others (All-tail (λ o. IfSome o IsPeer) o others all))
  where
    of_address : (ip : Addr) → AnAddress ip → All Address (ipv4_of ip)
    of_address (V4 a) h = All-cons Address a [] h (All-nil Address)
    of_address (V6 a) h = All-nil Address

    of_peer : (o : Option PeerAddress) → IfSome o IsPeer → All Address (ipv4_in o)
    of_peer None h = All-nil Address
    of_peer (Some p) h = of_address p.ip h.0

once_in_range : (xs : List ℕ) → All Address xs → All Address (each_once xs)
once_in_range [] all = all
once_in_range (x ∷ xs) all =
    All-cons Address x (filter (λ y. not (x == y)) (each_once xs)) (All-head Address x xs all)
    (All-filter (λ y. not (x == y)) Address (each_once xs) (once_in_range xs (All-tail Address x xs all)))

once_some : (xs : List ℕ) → 1 ≤ length xs → 1 ≤ length (each_once xs)
once_some [] h = h
once_some (x ∷ xs) h = omega arith

-- ---- Some address is named

some_value : (kind : ℕ) (attributes : List Attribute) → is_some (value_of kind attributes) ≡ true → 1 ≤ length (values_of kind attributes)
some_value kind [] present = cc
some_value kind (a ∷ others) present = elim (cases_Bool (a.kind == kind)) [
  | inl is ↦ rw is (omega arith)
  | inr is ↦ rw is (some_value kind others (rw is at present))
]

some_ipv4 : (peers : List (Option PeerAddress)) → 1 ≤ length peers → list_any is_none peers ≡ false → list_any is_ipv6 peers ≡ false → 1 ≤ length (flat_map ipv4_in peers)
some_ipv4 [] some well_formed of_ipv4 = some
some_ipv4 (None ∷ others) some well_formed of_ipv4 = cc
some_ipv4 (Some p ∷ others) some well_formed of_ipv4 = by_address p.ip refl
  where
    by_address : (ip : Addr) → p.ip ≡ ip → 1 ≤ length (ipv4_in (Some p) ++ flat_map ipv4_in others)
    by_address (V4 a) is = rw is (omega arith)
    by_address (V6 a) is = let wrong : true ≡ false = rw is at of_ipv4 in cc

-- ---- A message

module _ (m : Content) where
  pub named_distinct : IsDistinct nat_eq (named_addresses m)
  unfolding named_addresses
  named_distinct = once_distinct (flat_map ipv4_in (named_peers m))

  pub some_named : is_seen m xor_peer_address ≡ true → list_any is_none (named_peers m) ≡ false → list_any is_ipv6 (named_peers m) ≡ false → 1 ≤ length (named_addresses m)
  unfolding named_addresses seen_value
  some_named present well_formed of_ipv4 =
      let some = some_value xor_peer_address (seen m) present in
      once_some (flat_map ipv4_in (named_peers m)) (some_ipv4 (named_peers m) (omega (arith, length-map (values_of xor_peer_address (seen m)) (λ v. address_of v m.tx))) well_formed of_ipv4)

  module _ (bytes : IsMadeOfBytes m) where
    seen_of_bytes : OfBytes (seen m)
    unfolding OfBytes
    seen_of_bytes = before_of_bytes message_integrity m.attributes bytes.values

    pub peer_in_range : (p : Endpoint) → named_peer m ≡ Some (record { ip = V4 p.ip; port = p.port }) → IsEndpoint p
    unfolding named_peer IsPeer AnAddress seen_value
    peer_in_range p is =
        let peer : IfSome (named_peer m) IsPeer = of_value (value_of xor_peer_address (seen m)) (value_of_bytes xor_peer_address (seen m) seen_of_bytes) in
        let known = subst (λ o. IfSome o IsPeer) is peer in
        record { ip = known.0; port = known.1 }
      where
        of_value : (o : Option (List ℕ)) → IfSome o AreBytes → IfSome (option_and_then (λ v. address_of v m.tx) o) IsPeer
        of_value None h = tt
        of_value (Some v) h = address_in_range v m.tx h

    pub named_addresses_in_range : All Address (named_addresses m)
    unfolding named_addresses
    named_addresses_in_range = once_in_range (flat_map ipv4_in (named_peers m)) (ipv4_in_range (named_peers m) (named_in_range m.tx (seen m) seen_of_bytes))
