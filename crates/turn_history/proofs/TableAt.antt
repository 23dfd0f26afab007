-- What a table holds goes on being in its ranges, within the limits and apart: as time passes, by an act that fits, and as an
-- entry or a reservation comes or goes.
use Rattle.std.proofs.Common.{◌≡◌, ◌≢◌, ℕ, ◌+◌, ◌-◌, ◌<◌, ◌≤◌, Bool, true, false, cond, is_some, Some, None, refl, sym, ap, ◌∙◌, subst, arith}
use Rattle.std.specs.Ordering.{nat_cmp}
use Rattle.std.specs.FinMap as fin
use Rattle.std.specs.FinMap.{get-empty, len-empty, len-insert, len-remove, nat_cmp-IsAntisymmetric}
use Rattle.std.proofs.lemmas.Cmp.{nat_cmp_total}
use Rattle.std.proofs.lemmas.Option.{none-some}
use Rattle.turn_history.specs.Prelude.{FiveTuple, Bounds, Fits, IsInRange, IsReservationInRange, IsTuple, IsUnreserved, PortIsFree, Event, IsEntryAt, IsTableAt, IsWithin, PeersApart, PortsApart, ReservedApart, Contents, Entry, no_contents, purged, applied}
use Rattle.turn_history.specs.declared.reservation.Reservation.{Reservation}
use Rattle.turn_history.proofs.Histories.{ports-purged, ports-applied}
use Rattle.turn_history.proofs.Kept.{ranges-purged, ranges-applied, peers-purged, peers-applied}
use Rattle.turn_history.proofs.Maps.{all_insert, all_remove, from_eq, tuple_exact, tuple_total}
use Rattle.turn_history.proofs.Reserved.{reservations-purged, reservations-applied, reserved-purged, reserved-applied}
use Rattle.turn_history.proofs.Sizes.{within-purged, within-applied}
use Rattle.turn_types.specs.Prelude.{tuple_cmp, end_of_moments}

pub at-purged : (b : Bounds) (t u : ℕ) (c : Contents) → t ≤ u → u < end_of_moments → IsTableAt b t c → IsTableAt b u (purged u c)
at-purged b t u c le moment s = record {
  moment = moment;
  values = ranges-purged b t u c le s.values;
  reserved = reservations-purged t u c le s.reserved;
  reserved_apart = reserved-purged u c s.reserved_apart;
  within = within-purged b u c s.within;
  ports = ports-purged u c s.ports;
  peers = peers-purged u c s.peers;
}

pub at-applied : (b : Bounds) (e : Event) (c : Contents) → IsInRange b e → Fits b c e.tuple e.act → IsTableAt b e.moment c → IsTableAt b e.moment (applied e.moment e.tuple e.act c)
at-applied b e c range fits s = record {
  moment = s.moment;
  values = ranges-applied b e.moment e.tuple e.act c range.tuple range.act s.values;
  reserved = reservations-applied b e.moment e.tuple e.act c range.act s.reserved;
  reserved_apart = reserved-applied b e.moment e.tuple c s.reserved_apart e.act fits;
  within = within-applied b e.moment e.tuple c s.within e.act fits;
  ports = ports-applied b e.moment e.tuple e.act c fits s.ports;
  peers = peers-applied b e.moment e.tuple e.act c fits s.peers;
}

pub at-nothing : (b : Bounds) (t : ℕ) → t < end_of_moments → IsTableAt b t no_contents
unfolding no_contents
at-nothing b t moment = record {
  moment = moment;
  values = λ f e is. absurd (none-some e (sym (get-empty tuple_cmp f) ∙ is));
  reserved = λ q r is. absurd (none-some r (sym (get-empty nat_cmp q) ∙ is));
  reserved_apart = λ q r is. absurd (none-some r (sym (get-empty nat_cmp q) ∙ is));
  within = record {
    allocations = (let size = len-empty tuple_cmp Entry in omega arith);
    reserved = (let size = len-empty nat_cmp Reservation in omega arith);
    permissions = λ f e is. absurd (none-some e (sym (get-empty tuple_cmp f) ∙ is));
    channels = λ f e is. absurd (none-some e (sym (get-empty tuple_cmp f) ∙ is));
  };
  ports = λ f g x y is. absurd (none-some x (sym (get-empty tuple_cmp f) ∙ is));
  peers = λ f e is. absurd (none-some e (sym (get-empty tuple_cmp f) ∙ is));
}

-- one value more is at most one more, and one less none more
one_more : (b : Bool) (n m k : ℕ) → m ≡ cond b n (n + 1) → n < k → m ≤ k
one_more true n m k is lt = omega (arith, is, lt)
one_more false n m k is lt = omega (arith, is, lt)

none_more : (b : Bool) (n m k : ℕ) → m ≡ cond b (n - 1) n → n ≤ k → m ≤ k
none_more true n m k is le = omega (arith, is, le)
none_more false n m k is le = omega (arith, is, le)

module _ (b : Bounds) (t : ℕ) (c : Contents) (s : IsTableAt b t c) where
  -- an entry of a five-tuple, which had none
  pub at-inserted : (f : FiveTuple) (e : Entry) → IsEntryAt b t f e → PortIsFree c e.port → IsUnreserved c e.port → fin.len c.entries < b.allocations → IsTableAt b t (record c { entries = fin.insert c.entries f e })
  at-inserted f e is free unreserved few = record {
    moment = s.moment;
    values = all_insert tuple_total _ c.entries s.values f e (λ g tied. (subst IsTuple (sym (from_eq tuple_cmp tuple_exact g f tied)) is.tuple, is.values));
    reserved = s.reserved;
    reserved_apart = λ q r at. all_insert tuple_total (λ g x. x.port ≢ q) c.entries (s.reserved_apart q r at) f e (λ g tied same. none-some r (sym unreserved ∙ ap (fin.get c.reserved) same ∙ at));
    within = record {
      allocations = one_more _ (fin.len c.entries) _ b.allocations (len-insert tuple_total c.entries f e) few;
      reserved = s.within.reserved;
      permissions = all_insert tuple_total _ c.entries s.within.permissions f e (λ g tied. is.permissions);
      channels = all_insert tuple_total _ c.entries s.within.channels f e (λ g tied. is.channels);
    };
    ports = λ g h x y at there.
        all_insert tuple_total (λ g x. (h : FiveTuple) (y : Entry) → fin.get (fin.insert c.entries f e) h ≡ Some y → x.port ≡ y.port → g ≡ h) c.entries
        (λ g x at. all_insert tuple_total (λ h y. x.port ≡ y.port → g ≡ h) c.entries (λ h y there. s.ports g h x y at there) f e (λ h tied same. absurd (free g x at same))) f e
        (λ g tied. all_insert tuple_total (λ h y. e.port ≡ y.port → g ≡ h) c.entries (λ h y there same. absurd (free h y there (sym same))) f e
        (λ h too same. from_eq tuple_cmp tuple_exact g f tied ∙ sym (from_eq tuple_cmp tuple_exact h f too)))
        g x at h y there;
    peers = all_insert tuple_total _ c.entries s.peers f e (λ g tied. is.peers);
  }

  pub at-removed : (f : FiveTuple) → IsTableAt b t (record c { entries = fin.remove c.entries f })
  at-removed f = record {
    moment = s.moment;
    values = all_remove tuple_total _ c.entries s.values f;
    reserved = s.reserved;
    reserved_apart = λ q r at. all_remove tuple_total (λ g x. x.port ≢ q) c.entries (s.reserved_apart q r at) f;
    within = record {
      allocations = none_more _ (fin.len c.entries) _ b.allocations (len-remove tuple_total c.entries f) s.within.allocations;
      reserved = s.within.reserved;
      permissions = all_remove tuple_total _ c.entries s.within.permissions f;
      channels = all_remove tuple_total _ c.entries s.within.channels f;
    };
    ports = λ g h x y at there same.
        all_remove tuple_total (λ g x. (h : FiveTuple) (y : Entry) → fin.get c.entries h ≡ Some y → x.port ≡ y.port → g ≡ h) c.entries (λ g x at h y. s.ports g h x y at) f g x at h y
        (all_remove tuple_total (λ h y. fin.get c.entries h ≡ Some y) c.entries (λ h y is. is) f h y there) same;
    peers = all_remove tuple_total _ c.entries s.peers f;
  }

  -- a reservation of a port, which no entry has
  pub at-reserved : (q : ℕ) (r : Reservation) → IsReservationInRange t q r → PortIsFree c q → fin.len c.reserved < b.allocations → IsTableAt b t (record c { reserved = fin.insert c.reserved q r })
  at-reserved q r is free few = record {
    moment = s.moment;
    values = s.values;
    reserved = all_insert nat_cmp_total (IsReservationInRange t) c.reserved s.reserved q r (λ p tied. subst (λ x. IsReservationInRange t x r) (sym (from_eq nat_cmp nat_cmp-IsAntisymmetric p q tied)) is);
    reserved_apart = all_insert nat_cmp_total (λ p x. PortIsFree c p) c.reserved s.reserved_apart q r (λ p tied. subst (PortIsFree c) (sym (from_eq nat_cmp nat_cmp-IsAntisymmetric p q tied)) free);
    within = record {
      allocations = s.within.allocations;
      reserved = one_more _ (fin.len c.reserved) _ b.allocations (len-insert nat_cmp_total c.reserved q r) few;
      permissions = s.within.permissions;
      channels = s.within.channels;
    };
    ports = s.ports;
    peers = s.peers;
  }

  pub at-released : (q : ℕ) → IsTableAt b t (record c { reserved = fin.remove c.reserved q })
  at-released q = record {
    moment = s.moment;
    values = s.values;
    reserved = all_remove nat_cmp_total (IsReservationInRange t) c.reserved s.reserved q;
    reserved_apart = all_remove nat_cmp_total (λ p x. PortIsFree c p) c.reserved s.reserved_apart q;
    within = record {
      allocations = s.within.allocations;
      reserved = none_more _ (fin.len c.reserved) _ b.allocations (len-remove nat_cmp_total c.reserved q) s.within.reserved;
      permissions = s.within.permissions;
      channels = s.within.channels;
    };
    ports = s.ports;
    peers = s.peers;
  }
