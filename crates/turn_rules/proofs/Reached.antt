-- What is known where an outcome is reached: one walk over the rows of all requests, from which the laws follow.
use Rattle.std.proofs.Common.{◌≡◌, ◌⊎◌, inl, inr, ℕ, ◌≤◌, ◌<◌, Bool, true, false, not, is_none, List, [], ◌∷◌, take, is_some, ◌&&◌, ◌||◌, ap, refl, subst, sym, ◌∙◌, Option, Some, None, ◌==◌, nat_le, unwrap_or, IfSome}
use Rattle.std.specs.FinMap as fin
use Rattle.std.specs.Int.{w16, from_be_bytes}
use Rattle.std.specs.List.{list_any}
use Rattle.std.specs.Option.{option_or}
use Rattle.std.proofs.Math.Bool.{and-true}
use Rattle.std.proofs.lemmas.Option.{IfSome_then}
use Rattle.turn_types.specs.Prelude.{Config, allocate, binding, refresh, create_permission, first_row}
use Rattle.turn_history.specs.Prelude.{Unauthenticated, Addr, V4, V6, Endpoint, FiveTuple, PeerAddress, Token, in_range, FitsChannel, PlainAct, Allocates, Renews, Permits, Binds, Contents, Entry, install}
use Rattle.std.proofs.lemmas.Bool.{and_parts, cond_both, leb-false, leb-true, ltb-false, not-false, or_parts, true≢false}
use Rattle.turn_history.proofs.Tests.{channel_fits}
use Rattle.turn_history.specs.ChannelNumber.{IsChannelNumber, is_channel_number}
use Rattle.turn_codec.specs.Prelude.{channel_number, even_port, requested_address_family, reservation_token, xor_peer_address, Content, Datagram, has_unknown, is_seen, seen_value}
use Rattle.turn_cred.specs.Prelude.{Verdict, Bad400, Stale438, Passed}
use Rattle.turn_cred.specs.Credential.Verdict.{Challenge401}
use Rattle.turn_cred.specs.declared.key.Key.{Key}
use Rattle.turn_rules.specs.declared.outcome.Outcome.{Outcome}
use Rattle.turn_rules.specs.declared.outcome.Outcome.TheVariants.{Drop, RefuseUnknown, Challenge, MappedAddress, Renew, Permit, Bind}
use Rattle.turn_rules.specs.Prelude.{allocate_outcome, asks_for_next_port, before_port, capacity_outcome, capacity_rows, named_port, own_outcome, own_rows, port_for, token_of, with_port, by_verdict, decision, is_dropped, is_expired, is_protected, outcome_of, passed_outcome, user_of, binding_outcome, bind_outcome, bind_rows, channel_outcome, named_number, named_peer, number_at, to_address, to_peer, first_byte, four_bytes, granted, lifetime_of, entry_outcome, owner_outcome, owner_rows, act_by, is_ipv6, named_peers, named_addresses, permission_outcome, permission_rows, refresh_outcome, refresh_rows, renewed_for}

-- ---- Tests

-- a number that a request names is a channel's
in_range_is : (n : ℕ) → IfSome (in_range n) IsChannelNumber
in_range_is n = cond_both (is_channel_number n) (Some n) None (λ o. IfSome o IsChannelNumber)
    (λ is. let parts = and_parts (nat_le 0x4000 n) (nat_le n 0x4FFF) is in (leb-true 0x4000 n parts.0, leb-true n 0x4FFF parts.1)) (λ _. tt)

number_is : (v : Option (List ℕ)) → IfSome (number_at v) IsChannelNumber
number_is None = tt
number_is (Some v) = in_range_is (from_be_bytes w16 (take 2 v))

number_in_range : (m : Content) → IfSome (named_number m) IsChannelNumber
unfolding named_number
number_in_range m = number_is (four_bytes (seen_value m channel_number))

-- ---- Rows

-- a fact for each row that applies where those before it don't, and for where none applies
abbrev pub EachRow : {A : Type 0} → (A → Type 0) → List (Bool × A) → A → Type 0
EachRow P [] otherwise = P otherwise
EachRow P (row ∷ rows) otherwise = (row.0 ≡ true → P row.1) × (row.0 ≡ false → EachRow P rows otherwise)

pub by_rows : {A : Type 0} (P : A → Type 0) (rows : List (Bool × A)) (otherwise : A) → EachRow P rows otherwise → P (first_row rows otherwise)
by_rows P [] otherwise each = each
by_rows P (row ∷ rows) otherwise each = cond_both row.0 row.1 (first_row rows otherwise) P each.0 (λ no. by_rows P rows otherwise (each.1 no))

-- ---- What is known

-- of a request for the next port too
pub record IsForPair (pairs : Bool) (s : Config) (c : Contents) (m : Content) : Type 0 where
  pub may : pairs ≡ true
  pub no_token : is_seen m reservation_token ≡ false
  pub room : fin.len c.reserved < s.limits.allocations

-- of a new allocation
pub record IsNew (pairs : Bool) (s : Config) (c : Contents) (f : FiveTuple) (t : ℕ) (user : List ℕ) (m : Content) (picked : Option ℕ) (p seconds : ℕ) (token : Option Token) : Type 0 where
  pub method : (m.method == allocate) ≡ true
  pub known : has_unknown m ≡ false
  pub absent : fin.get c.entries f ≡ None
  pub room : fin.len c.entries < s.limits.allocations
  pub undecided : before_port pairs s c f user m ≡ None
  pub port_is : port_for c m picked ≡ Some p
  pub granted_is : seconds ≡ granted (lifetime_of m)
  pub token_is : token ≡ token_of s f t m p
  pub next : asks_for_next_port m ≡ true → IsForPair pairs s c m

-- of an allocation that is renewed or deleted
pub record IsRenewed (c : Contents) (f : FiveTuple) (m : Content) (seconds : ℕ) : Type 0 where
  pub entry : Entry
  pub at : fin.get c.entries f ≡ Some entry
  pub granted_is : seconds ≡ renewed_for (lifetime_of m)

-- of addresses that are permitted
pub record ArePermitted (s : Config) (c : Contents) (f : FiveTuple) (m : Content) (addresses : List ℕ) : Type 0 where
  pub entry : Entry
  pub at : fin.get c.entries f ≡ Some entry
  pub named : addresses ≡ named_addresses m
  pub within : fin.len (install 0 (named_addresses m) entry.permissions) ≤ s.limits.permissions
  pub present : is_seen m xor_peer_address ≡ true
  pub well_formed : list_any is_none (named_peers m) ≡ false
  pub of_ipv4 : list_any is_ipv6 (named_peers m) ≡ false

-- of a channel that is bound
pub record IsBound (s : Config) (c : Contents) (f : FiveTuple) (m : Content) (n : ℕ) (p : Endpoint) : Type 0 where
  pub entry : Entry
  pub at : fin.get c.entries f ≡ Some entry
  pub number : IsChannelNumber n
  pub peer : named_peer m ≡ Some (record { ip = V4 p.ip; port = p.port })
  pub fits : FitsChannel s.limits n p entry

-- of an act
abbrev pub IsReached : Bool → Config → Contents → FiveTuple → ℕ → List ℕ → Content → Option ℕ → PlainAct → Type 0
IsReached pairs s c f t user m port (Allocates name p seconds tx token) = (name ≡ user) × (tx.0 ≡ m.tx) × IsNew pairs s c f t user m port p seconds token
IsReached pairs s c f t user m port (Renews seconds) = IsRenewed c f m seconds
IsReached pairs s c f t user m port (Permits addresses) = ArePermitted s c f m addresses
IsReached pairs s c f t user m port (Binds n p) = IsBound s c f m n p

-- of the act of an outcome, if it has one
abbrev pub Reached : Bool → Config → Contents → FiveTuple → ℕ → List ℕ → Content → Option ℕ → Outcome → Type 0
Reached pairs s c f t user m port o = IfSome (act_by user m o) (IsReached pairs s c f t user m port)

-- an outcome that does nothing to the allocation
abbrev pub IsQuiet : Outcome → Type 0
IsQuiet o = (user : List ℕ) (m : Content) → act_by user m o ≡ None

-- the outcome of a datagram does nothing, or its credentials hold
pub record IsOfUser (pairs : Bool) (s : Config) (c : Contents) (f : FiveTuple) (t : ℕ) (d : Datagram) (v : Option Verdict) (port : Option ℕ) (o : Outcome) : Type 0 where
  pub user : List ℕ
  pub key : Key
  pub verdict : v ≡ Some (Passed user key)
  pub in_time : is_expired c f t d.content key ≡ false
  pub taken : is_dropped d ≡ false
  pub protected : is_protected d.content.method ≡ true
  pub reached : Reached pairs s c f t user d.content port o

-- ---- Allocate

-- what no row before the quota says
pub record IsUndecided (pairs valid : Bool) (o : Option Entry) (m : Content) : Type 0 where
  pub known : has_unknown m ≡ false
  pub absent : o ≡ None
  pub alone : is_seen m reservation_token && (is_seen m even_port || is_seen m requested_address_family) ≡ false
  pub may_name : is_seen m reservation_token && not (pairs && valid) ≡ false
  pub may_pair : asks_for_next_port m && not pairs ≡ false

record HasRoom (s : Config) (c : Contents) (m : Content) : Type 0 where
  room : fin.len c.entries < s.limits.allocations
  next : asks_for_next_port m && nat_le s.limits.allocations (fin.len c.reserved) ≡ false

-- an outcome that rows give is quiet, and where they give none, this is known
abbrev pub QuietOr : Type 0 → Option Outcome → Type 0
QuietOr P None = P
QuietOr P (Some o) = IsQuiet o

pub own_is : (pairs valid : Bool) (o : Option Entry) (user : List ℕ) (m : Content) → QuietOr (IsUndecided pairs valid o m) (own_outcome pairs valid o user m)
unfolding own_outcome
own_is pairs valid None user m = by_rows (QuietOr (IsUndecided pairs valid None m)) (own_rows pairs valid None user m) None (
  λ _ _ _. refl,
  λ known. (
    λ wrong. cc,
    λ _. (
      λ wrong. cc,
      λ _. (
        λ _ _ _. refl,
        λ _. (
          λ _ _ _. refl,
          λ _. (
            λ _ _ _. refl,
            λ alone. (
              λ _ _ _. refl,
              λ may_name.
                  (λ _ _ _. refl, λ _. (λ _ _ _. refl, λ may_pair. record { known = known; absent = refl; alone = alone; may_name = may_name; may_pair = may_pair })),
            ),
          ),
        ),
      ),
    ),
  ),
)
own_is pairs valid (Some e) user m = by_rows (QuietOr (IsUndecided pairs valid (Some e) m)) (own_rows pairs valid (Some e) user m) None
    (λ _ _ _. refl, λ _. (λ _ _ _. refl, λ _. (λ _ _ _. refl, λ wrong. absurd (true≢false wrong))))

capacity_is : (s : Config) (c : Contents) (user : List ℕ) (m : Content) → QuietOr (HasRoom s c m) (capacity_outcome s c user m)
capacity_is s c user m = by_rows (QuietOr (HasRoom s c m)) (capacity_rows s c user m) None
    (λ _ _ _. refl, λ _. (λ _ _ _. refl, λ room. (λ _ _ _. refl, λ next. record { room = leb-false s.limits.allocations (fin.len c.entries) room; next = next })))

both_quiet : (P Q : Type 0) (o k : Option Outcome) → QuietOr P o → QuietOr Q k → QuietOr (P × Q) (option_or o k)
both_quiet P Q None None p q = (p, q)
both_quiet P Q None (Some k) p q = q
both_quiet P Q (Some o) k p q = p

-- a request for the next port has EVEN-PORT, so no token, and reaches the port only where there is room
for_pair : (pairs valid : Bool) (s : Config) (c : Contents) (o : Option Entry) (m : Content) → IsUndecided pairs valid o m → HasRoom s c m → asks_for_next_port m ≡ true → IsForPair pairs s c m
for_pair pairs valid s c o m own room asks =
    let even : is_seen m even_port ≡ true = (and_parts (is_seen m even_port) (nat_le 128 (first_byte m even_port)) asks).0 in
    record {
      may = not-false pairs (sym (ap (λ b. b && not pairs) asks) ∙ own.may_pair);
      no_token = sym (and-true (is_seen m reservation_token)) ∙ sym (ap (λ b. is_seen m reservation_token && (b || is_seen m requested_address_family)) even) ∙ own.alone;
      room = leb-false s.limits.allocations (fin.len c.reserved) (sym (ap (λ b. b && nat_le s.limits.allocations (fin.len c.reserved)) asks) ∙ room.next);
    }

module _ (pairs : Bool) (s : Config) (c : Contents) (f : FiveTuple) (t : ℕ) (m : Content) where
  abbrev Undecided : Type 0
  Undecided = IsUndecided pairs (is_some (named_port c m)) (fin.get c.entries f) m × HasRoom s c m

  before_is : (user : List ℕ) → QuietOr Undecided (before_port pairs s c f user m)
  unfolding before_port
  before_is user = both_quiet _ _ (own_outcome pairs (is_some (named_port c m)) (fin.get c.entries f) user m) (capacity_outcome s c user m)
      (own_is pairs (is_some (named_port c m)) (fin.get c.entries f) user m) (capacity_is s c user m)

  allocate_reached : (user : List ℕ) (port : Option ℕ) → (m.method == allocate) ≡ true → Reached pairs s c f t user m port (allocate_outcome pairs s c f t user m port)
  allocate_reached user port method = by_before (before_port pairs s c f user m) refl (before_is user)
    where
      by_port : Undecided → before_port pairs s c f user m ≡ None → (p : Option ℕ) → port_for c m port ≡ p → Reached pairs s c f t user m port (with_port s f t m p)
      by_port known undecided None is = tt
      by_port known undecided (Some p) is = (
        refl,
        refl,
        record {
          method = method;
          known = known.0.known;
          absent = known.0.absent;
          room = known.1.room;
          undecided = undecided;
          port_is = is;
          granted_is = refl;
          token_is = refl;
          next = for_pair pairs (is_some (named_port c m)) s c (fin.get c.entries f) m known.0 known.1;
        },
      )

      by_before : (o : Option Outcome) → before_port pairs s c f user m ≡ o → QuietOr Undecided o → Reached pairs s c f t user m port (unwrap_or o (with_port s f t m (port_for c m port)))
      by_before (Some o) at quiet = subst (λ a. IfSome a (IsReached pairs s c f t user m port)) (sym (quiet user m)) tt
      by_before None at known = by_port known at (port_for c m port) refl

  -- ---- The requests of the owner

  module _ (user : List ℕ) (port : Option ℕ) (e : Entry) (at : fin.get c.entries f ≡ Some e) where
    refresh_reached : Reached pairs s c f t user m port (refresh_outcome m)
    refresh_reached = by_rows (Reached pairs s c f t user m port) (refresh_rows m) (Renew (renewed_for (lifetime_of m)))
        (λ _. tt, λ _. (λ _. tt, λ _. record { entry = e; at = at; granted_is = refl }))

    permission_reached : Reached pairs s c f t user m port (permission_outcome s e m)
    permission_reached = by_rows (Reached pairs s c f t user m port) (permission_rows s e m) (Permit (named_addresses m)) (
      λ _. tt,
      λ named. (
        λ _. tt,
        λ of_ipv4. (
          λ _. tt,
          λ _. (
            λ _. tt,
            λ within.
                let parts = or_parts (not (is_seen m xor_peer_address)) (list_any is_none (named_peers m)) named in
                record {
                  entry = e;
                  at = at;
                  named = refl;
                  within = ltb-false s.limits.permissions (fin.len (install 0 (named_addresses m) e.permissions)) within;
                  present = not-false (is_seen m xor_peer_address) parts.0;
                  well_formed = parts.1;
                  of_ipv4 = of_ipv4;
                },
          ),
        ),
      ),
    )

    bind_reached : (n : ℕ) (p : Endpoint) → IsChannelNumber n → named_peer m ≡ Some (record { ip = V4 p.ip; port = p.port }) → Reached pairs s c f t user m port (bind_outcome s e n p)
    bind_reached n p number peer = by_rows (Reached pairs s c f t user m port) (bind_rows s e n p) (Bind n p) (
      λ _. tt,
      λ _. (
        λ _. tt,
        λ elsewhere. (
          λ _. tt,
          λ exceeds.
              record { entry = e; at = at; number = number; peer = peer; fits = channel_fits s.limits n p e elsewhere exceeds },
        ),
      ),
    )

    address_reached : (ip : Addr) (n p : ℕ) → IsChannelNumber n → named_peer m ≡ Some (record { ip = ip; port = p }) → Reached pairs s c f t user m port (to_address s e n ip p)
    address_reached (V6 ip) n p number peer = tt
    address_reached (V4 ip) n p number peer = bind_reached n (record { ip = ip; port = p }) number peer

    peer_reached : (number : Option ℕ) (peer : Option PeerAddress) → IfSome number IsChannelNumber → named_peer m ≡ peer → Reached pairs s c f t user m port (to_peer s e number peer)
    peer_reached None peer number is = tt
    peer_reached (Some n) None number is = tt
    peer_reached (Some n) (Some peer) number is = address_reached peer.ip n peer.port number is

    channel_reached : Reached pairs s c f t user m port (channel_outcome s e m)
    channel_reached = peer_reached (named_number m) (named_peer m) (number_in_range m) refl

    entry_reached : Reached pairs s c f t user m port (entry_outcome s m e)
    entry_reached = by_rows (Reached pairs s c f t user m port) ((m.method == refresh, refresh_outcome m) ∷ (m.method == create_permission, permission_outcome s e m) ∷ []) (channel_outcome s e m)
        (λ _. refresh_reached, λ _. (λ _. permission_reached, λ _. channel_reached))

  owner_reached : (port : Option ℕ) (user : List ℕ) (o : Option Entry) → fin.get c.entries f ≡ o → Reached pairs s c f t user m port (owner_outcome s o user m)
  owner_reached port user None at = by_rows (Reached pairs s c f t user m port) (owner_rows None user m) Drop (λ _. tt, λ _. (λ _. tt, λ _. (λ _. tt, λ _. tt)))
  owner_reached port user (Some e) at = by_rows (Reached pairs s c f t user m port) (owner_rows (Some e) user m) (entry_outcome s m e) (λ _. tt, λ _. (λ _. tt, λ _. (λ _. tt, λ _. entry_reached user port e at)))

  passed_reached : (port : Option ℕ) (user : List ℕ) → Reached pairs s c f t user m port (passed_outcome pairs s c f t user m port)
  passed_reached port user = cond_both (m.method == allocate) (allocate_outcome pairs s c f t user m port) (owner_outcome s (fin.get c.entries f) user m)
      (Reached pairs s c f t user m port) (allocate_reached user port) (λ _. owner_reached port user (fin.get c.entries f) refl)

-- ---- A datagram

-- an outcome does nothing, or this is known of it
abbrev pub Known : Bool → Config → Contents → FiveTuple → ℕ → Datagram → Option Verdict → Option ℕ → Outcome → Type 0
Known pairs s c f t d v port o = IsQuiet o ⊎ IsOfUser pairs s c f t d v port o

module _ (pairs : Bool) (s : Config) (c : Contents) (f : FiveTuple) (t : ℕ) (d : Datagram) (port : Option ℕ) where
  verdict_known : (v : Option Verdict) → is_dropped d ≡ false → is_protected d.content.method ≡ true → Known pairs s c f t d v port (by_verdict pairs s c f t d.content v port)
  verdict_known None taken protected = inl (λ _ _. refl)
  verdict_known (Some Challenge401) taken protected = inl (λ _ _. refl)
  verdict_known (Some Bad400) taken protected = inl (λ _ _. refl)
  verdict_known (Some Stale438) taken protected = inl (λ _ _. refl)
  verdict_known (Some (Passed user key)) taken protected = cond_both (is_expired c f t d.content key) (Challenge Unauthenticated) (passed_outcome pairs s c f t user d.content port)
      (Known pairs s c f t d (Some (Passed user key)) port) (λ _. inl (λ _ _. refl))
      (λ early. inr (record { user = user; key = key; verdict = refl; in_time = early; taken = taken; protected = protected; reached = passed_reached pairs s c f t d.content port user }))

  pub known : (v : Option Verdict) → Known pairs s c f t d v port (outcome_of pairs s c f t d v port)
  unfolding outcome_of
  known v = by_rows (Known pairs s c f t d v port)
      ((is_dropped d, Drop) ∷ (d.content.method == binding, binding_outcome d.content) ∷ (is_protected d.content.method, by_verdict pairs s c f t d.content v port) ∷ []) Drop
      (λ _. inl (λ _ _. refl), λ taken. (λ _. inl binding_quiet, λ _. (verdict_known v taken, λ _. inl (λ _ _. refl))))
    where
      binding_quiet : IsQuiet (binding_outcome d.content)
      binding_quiet = by_rows IsQuiet ((has_unknown d.content, RefuseUnknown) ∷ []) MappedAddress (λ _ _ _. refl, λ _ _ _. refl)

-- an act that is decided was reached for a user
pub of_decided : (pairs : Bool) (s : Config) (c : Contents) (f : FiveTuple) (t : ℕ) (d : Datagram) (v : Option Verdict) (port : Option ℕ) (P : PlainAct → Type 0)
    → ((is : IsOfUser pairs s c f t d v port (outcome_of pairs s c f t d v port)) (act : PlainAct) → IsReached pairs s c f t is.user d.content port act → P act)
    → IfSome (decision pairs s c f t d v port).act P
unfolding decision
of_decided pairs s c f t d v port P holds = elim (known pairs s c f t d port v) [
  | inl quiet ↦ subst (λ a. IfSome a P) (sym (quiet (user_of v) d.content)) tt
  | inr is ↦
      subst (λ w. IfSome (act_by (user_of w) d.content (outcome_of pairs s c f t d v port)) P) (sym is.verdict)
      (IfSome_then (act_by is.user d.content (outcome_of pairs s c f t d v port)) is.reached (holds is))
]
