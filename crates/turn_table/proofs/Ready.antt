-- What holds of a table between its calls: that it is a table at its moment, and until when nothing expires.
use Rattle.std.proofs.Common.{◌≡◌, ℕ, ◌+◌, ◌≤◌, List, refl, sym, ◌∙◌, subst, arith, Option, Some, None, IsSomeAnd, min, nat_eq}
use Rattle.std.specs.List.{list_any}
use Rattle.std.proofs.lemmas.Cmp.{nat_cmp_total}
use Rattle.std.proofs.lemmas.Option.{same_Some}
use Rattle.std.specs.FinMap as fin
use Rattle.std.specs.FinMap.{get-empty}
use Rattle.turn_history.proofs.Maps.{all_insert, all_remove, tuple_total}
use Rattle.turn_history.proofs.Steps.{get-install}
use Rattle.turn_history.specs.Prelude.{IsTableAt, Contents, Entry, Reservations, renewed, permitting, binding, with_reservation, Token, Endpoint, FiveTuple, Bounds}
use Rattle.turn_history.specs.declared.reservation.Reservation.{Reservation}
use Rattle.turn_types.specs.Prelude.{AreInRange, permission_lifetime, channel_lifetime, reservation_lifetime}
use Rattle.turn_table.specs.Prelude.{HasRoom, IsQuiet, Live, AreReservationsQuiet, IsReady, state_of, Room, State, with_entry}
use Rattle.turn_table.proofs.Held.{entry_at, of_entry}
use Rattle.turn_table.proofs.Options.{or_new, some_at, some_none, some_then}

-- ---- An entry

-- what is quiet until a moment is so until an earlier one
pub quiet_before : (t u : ℕ) (e : Entry) → t ≤ u → IsQuiet u e → IsQuiet t e
quiet_before t u e le q = record {
  entry = omega (arith, q.entry, le);
  permissions = λ a x is. let more = q.permissions a x is in omega (arith, more, le);
  channels = λ n c is. let more = q.channels n c is in omega (arith, more, le);
}

module _ (t u : ℕ) (e : Entry) (le : t ≤ u) (q : IsQuiet u e) where
  pub quiet_renewed : (x : ℕ) → t ≤ x → IsQuiet t (renewed x e)
  quiet_renewed x before = let same = quiet_before t u e le q in record { entry = before; permissions = same.permissions; channels = same.channels }

  pub quiet_permitting : (x : ℕ) (addresses : List ℕ) → t ≤ x → IsQuiet t (permitting x addresses e)
  quiet_permitting x addresses before =
      let same = quiet_before t u e le q in
      record {
        entry = same.entry;
        permissions = λ a y is.
            or_new (λ z. t ≤ z) (list_any (nat_eq a) addresses) (Some x) (fin.get e.permissions a) y (sym (get-install x addresses e.permissions a) ∙ is)
            (λ listed new. subst (λ z. t ≤ z) (same_Some x y new) before) (λ other. same.permissions a y);
        channels = same.channels;
      }

  pub quiet_binding : (m n : ℕ) (p : Endpoint) → t ≤ m + permission_lifetime → IsQuiet t (binding m n p e)
  quiet_binding m n p before =
      let same = quiet_before t u e le q in
      record {
        entry = same.entry;
        permissions = all_insert nat_cmp_total (λ a x. t ≤ x) e.permissions same.permissions p.ip (m + permission_lifetime) (λ a tied. before);
        channels = all_insert nat_cmp_total (λ k c. t ≤ c.expiry) e.channels same.channels n (record { peer = p; expiry = m + channel_lifetime }) (λ k tied. omega (arith, before));
      }

-- ---- The contents of a table

-- nothing of them expires before a moment
pub record Holds (t : ℕ) (c : Contents) : Type 0 where
  pub quiet : (f : FiveTuple) (e : Entry) → fin.get c.entries f ≡ Some e → IsQuiet t e
  pub reserved_quiet : AreReservationsQuiet t c.reserved

-- a state holds what a table may hold at its moment
abbrev pub IsAt : State → Type 0
IsAt s = IsTableAt s.bounds s.moment s.contents

-- both are what the parts of a table keep
module _ {b : Bounds} {s t places : ℕ} {l : Live} {q : Reservations} {r : Option Room} {old : State} (view_is : state_of b s l.held q r ≡ old) (ready : IsReady b s t l q places r) where
  pub at_of : IsAt old
  at_of = subst IsAt view_is ready.at

  pub holds_of : Holds t old.contents
  holds_of =
      subst (λ x. Holds t x.contents) view_is
      (record { quiet = λ f e at. let h = of_entry l.held f e at in subst (IsQuiet t) h.2 (ready.quiet f h.0 h.1); reserved_quiet = ready.reserved_quiet })

pub ready_of : {b : Bounds} {s t places : ℕ} {l : Live} {q : Reservations} {new : State} → state_of b s l.held q None ≡ new → AreInRange b → IsAt new → Holds t new.contents → IsReady b s t l q places None
ready_of {b} {s} {t} {l = l} {q = q} view_is range at holds =
    let now : Holds t (state_of b s l.held q None).contents = subst (λ x. Holds t x.contents) (sym view_is) holds in
    record {
      range = range;
      at = subst IsAt (sym view_is) at;
      quiet = λ f h at. now.quiet f h.entry (entry_at l.held f h at);
      reserved_quiet = now.reserved_quiet;
      spare = λ r e. cc;
    }

pub holds_empty : (t : ℕ) → Holds t (record { entries = fin.empty; reserved = fin.empty })
holds_empty t = record { quiet = λ f e is. absurd (some_none is (get-empty _ f)); reserved_quiet = λ q r is. absurd (some_none is (get-empty _ q)) }

module _ {t : ℕ} {c : Contents} (holds : Holds t c) where
  pub holds_earlier : {u : ℕ} → u ≤ t → Holds u c
  holds_earlier {u} le = record { quiet = λ f e is. quiet_before u t e le (holds.quiet f e is); reserved_quiet = λ q r is. let later = holds.reserved_quiet q r is in omega (arith, later, le) }

  -- an entry more
  pub holds_inserted : (f : FiveTuple) (e : Entry) → IsQuiet t e → Holds t (record c { entries = fin.insert c.entries f e })
  holds_inserted f e quiet = record { quiet = all_insert tuple_total (λ g x. IsQuiet t x) c.entries holds.quiet f e (λ g tied. quiet); reserved_quiet = holds.reserved_quiet }

  pub holds_removed : (f : FiveTuple) → Holds t (record c { entries = fin.remove c.entries f })
  holds_removed f = record { quiet = all_remove tuple_total (λ g x. IsQuiet t x) c.entries holds.quiet f; reserved_quiet = holds.reserved_quiet }

  -- a reserved port more
  pub holds_reserved : (port : ℕ) (r : Reservation) → t ≤ r.expiry → Holds t (record c { reserved = fin.insert c.reserved port r })
  holds_reserved port r le = record { quiet = holds.quiet; reserved_quiet = all_insert nat_cmp_total (λ q x. t ≤ x.expiry) c.reserved holds.reserved_quiet port r (λ q tied. le) }

  pub holds_released : (port : ℕ) → Holds t (record c { reserved = fin.remove c.reserved port })
  holds_released port = record { quiet = holds.quiet; reserved_quiet = all_remove nat_cmp_total (λ q x. t ≤ x.expiry) c.reserved holds.reserved_quiet port }

-- the entry of a new allocation, which ends the reservation of its port, and makes one of the next port if it has a token
pub holds_allocated : {t : ℕ} {c : Contents} → Holds t c → (moment : ℕ) (f : FiveTuple) (e : Entry) → IsQuiet t e → ((k : Token) → e.token ≡ Some k → t ≤ moment + reservation_lifetime)
    → Holds t (record { entries = fin.insert c.entries f e; reserved = with_reservation moment e.port e.token (fin.remove c.reserved e.port) })
holds_allocated {t} {c} holds moment f e quiet late = by_token e.token late
  where
    inserted : Holds t (record { entries = fin.insert c.entries f e; reserved = fin.remove c.reserved e.port })
    inserted = holds_inserted (holds_released holds e.port) f e quiet

    by_token : (o : Option Token) → ((k : Token) → o ≡ Some k → t ≤ moment + reservation_lifetime) → Holds t (record { entries = fin.insert c.entries f e; reserved = with_reservation moment e.port o (fin.remove c.reserved e.port) })
    by_token None late = inserted
    by_token (Some k) late = holds_reserved inserted (e.port + 1) (record { token = k; expiry = moment + reservation_lifetime }) (late k refl)

-- with the room that was made
pub ready_with : {b : Bounds} {s t places : ℕ} {l : Live} {q : Reservations} → IsReady b s t l q places None → (r : Room) → HasRoom r l → r.ports ≤ places → IsReady b s t l q places (Some r)
ready_with {places = places} {l = l} ready r room ports = record {
  range = ready.range;
  at = ready.at;
  quiet = ready.quiet;
  reserved_quiet = ready.reserved_quiet;
  spare = λ x is. subst (λ y. HasRoom y l × (y.ports ≤ places)) (same_Some r x is) (room, ports);
}

-- a change of an entry
pub ready_changed : {t u places : ℕ} {l : Live} {q : Reservations} (b : Bounds) (s : ℕ) (old : State) → AreInRange b → Holds u old.contents → t ≤ u → (f : FiveTuple) (change : Entry → Entry) → ((e : Entry) → IsQuiet u e → IsQuiet t (change e))
    → IsSomeAnd (fin.get old.contents.entries f) (λ e. IsAt (with_entry old f (change e))) → IsSomeAnd (fin.get old.contents.entries f) (λ e. state_of b s l.held q None ≡ with_entry old f (change e)) → IsReady b s t l q places None
ready_changed b s old range holds le f change keeps ats some = some_then _ (fin.get old.contents.entries f) some (λ e at is.
    ready_of is range (some_at (λ x. IsAt (with_entry old f (change x))) (fin.get old.contents.entries f) e ats at)
    (holds_inserted (holds_earlier holds le) f (change e) (keeps e (holds.quiet f e at))))

pub min_below : (a b m : ℕ) → m ≡ min a b → (m ≤ a) × (m ≤ b)
min_below a b m is = (omega (arith, is), omega (arith, is))
