-- What is held, and its orders, after a change.
use Rattle.std.proofs.Common.{◌≡◌, ℕ, ◌≤◌, ◌<◌, Bool, true, false, cond, is_some, List, [], map, slice_get, refl, sym, ap, ◌∙◌, subst, Option, Some, None, IsSome, IsSomeAnd, MatchOption, OnOk, Result, Ok, Err, count_by, insert, remove, option_map, bytes_eq}
use Rattle.std.specs.Map.{lookup}
use Rattle.std.specs.FinMap as fin
use Rattle.std.specs.FinMap.{same_map}
use Rattle.turn_history.proofs.Maps.{tuple_total, tuple_exact}
use Rattle.turn_history.specs.Prelude.{Entry, FiveTuple}
use Rattle.turn_types.specs.Prelude.{same_tuple}
use Rattle.turn_table.specs.Prelude.{IsByUser, IsEndOf, names_in, user_of, IsIndexed, held_in, still_pair, Changes, HasRoom, Holdings, Live, entries_of, Held, Room, pairs}
use Rattle.turn_table.proofs.ByUser.{counted-in, inserted, kept, none, removed}
use Rattle.turn_table.proofs.Held.{Updated, get-entries_of, get-held_in, get-updated, held-inserted, held-removed}
use Rattle.turn_table.proofs.Options.{mapped_twice}
use Rattle.turn_table.proofs.Purged.{same_purged}
use Rattle.turn_table.proofs.Index.{indexed_ports, port_of}
use Rattle.turn_table.proofs.Tuples.{itself, same_tuple-is, tuple_eq}

module _ (xs : List (FiveTuple × Held)) (old : Holdings) (view_is : held_in xs ≡ old) (f : FiveTuple) where
  pub get-view : (o : Option Held) → lookup (tuple_eq f) xs ≡ o → fin.get old f ≡ o
  get-view o is = ap (λ m. fin.get m f) (sym view_is) ∙ get-held_in xs f ∙ is

  module _ (h k : Held) (ys : List (FiveTuple × Held)) (was : lookup (tuple_eq f) xs ≡ Some h) (is : IsSome (lookup (tuple_eq f) xs) → Updated xs f (Some k) ys) where
    updated : Updated xs f (Some k) ys
    updated = is (ap is_some was)

    pub get-changed : fin.get (held_in ys) f ≡ Some k
    get-changed = get-updated xs ys f (Some k) updated f ∙ ap (λ b. cond b (Some k) (fin.get (held_in xs) f)) (itself f)

    -- what is the same of both is the same at each five-tuple
    same_at : {X : Type 0} (of : Option Held → X) → of (Some k) ≡ of (Some h) → (q : FiveTuple) → of (fin.get (held_in ys) q) ≡ of (fin.get (held_in xs) q)
    same_at of same q = ap of (get-updated xs ys f (Some k) updated q) ∙ by_test (same_tuple q f) refl
      where
        by_test : (b : Bool) → same_tuple q f ≡ b → of (cond b (Some k) (fin.get (held_in xs) q)) ≡ of (fin.get (held_in xs) q)
        by_test true at = same ∙ ap of (sym (ap (fin.get (held_in xs)) (same_tuple-is q f at) ∙ get-held_in xs f ∙ was))
        by_test false at = refl

    pub lists_changed : {place : FiveTuple → Option ℕ} {holder : ℕ → Option FiveTuple} {us : List FiveTuple} → IsIndexed (fin.get (held_in xs)) place holder × IsByUser user_of (held_in xs) us → k.entry.port ≡ h.entry.port → k.entry.user ≡ h.entry.user → IsIndexed (fin.get (held_in ys)) place holder × IsByUser user_of (held_in ys) us
    lists_changed {us = us} lists port user = (
      indexed_ports lists.0 (fin.get (held_in ys)) (same_at port_of (ap Some port)),
      kept user_of user_of (held_in xs) (held_in ys) us (same_at (option_map user_of) (ap Some user)) lists.1,
    )

    pub entries_unchanged : k.entry ≡ h.entry → entries_of (held_in ys) ≡ entries_of old
    entries_unchanged same =
        same_map tuple_total tuple_exact _ _ (λ q.
        get-entries_of (held_in ys) q ∙ same_at (option_map (λ h. h.entry)) (ap Some same) q ∙ sym (get-entries_of (held_in xs) q))
        ∙ ap entries_of view_is

    pub changes : (change : Entry → Entry) → k.entry ≡ change h.entry → Changes f change old (held_in ys)
    changes change same =
        subst (λ o. IsSomeAnd o (λ x. (y : Held) × (y.entry ≡ change x.entry) × (held_in ys ≡ fin.insert old f y))) (sym (get-view (Some h) was))
        (k, same, held-inserted xs ys f k updated ∙ ap (λ m. fin.insert m f k) view_is)

-- there is room for an entry inside it
pub room_inside : (r : Room) (l : Live) (h : Held) → fin.get l.held r.tuple ≡ Some h → r.permissions ≤ h.permission_room → r.channels ≤ h.channel_room → HasRoom r l
room_inside r l h some p q =
    subst (λ o. MatchOption o (0 < l.room) (λ h. (r.permissions ≤ h.permission_room) × (r.channels ≤ h.channel_room))) (sym some) (p, q)

pub on_ok_both : {A E : Type 0} {P Q G : Type 0} (r : Result A E) → OnOk r P → OnOk r Q → (P → Q → G) → OnOk r G
on_ok_both (Ok x) p q f = f p q
on_ok_both (Err e) p q f = tt

pub ok_holds : {A E : Type 0} {P : Type 0} (r : Result A E) (x : A) → r ≡ Ok x → OnOk r P → P
ok_holds (Ok y) x is p = p
ok_holds (Err e) x is p = cc

-- ---- The five-tuples in the order of their users' names

pub users_empty : (xs : List (FiveTuple × Held)) (us : List FiveTuple) → xs ≡ [] → us ≡ [] → IsByUser user_of (held_in xs) us
users_empty xs us no_xs no_us =
    subst (IsByUser user_of (held_in xs)) (sym no_us)
    (subst (λ ys. IsByUser user_of (held_in ys) []) (sym no_xs) (none user_of))

pub users_inserted : (xs ys : List (FiveTuple × Held)) (us vs : List FiveTuple) (f : FiveTuple) (h : Held) (name : List ℕ) → name ≡ h.entry.user → IsByUser user_of (held_in xs) us → fin.get (held_in xs) f ≡ None → Updated xs f (Some h) ys → (end : ℕ) × IsEndOf (names_in xs) name us end × (vs ≡ insert us end f) → IsByUser user_of (held_in ys) vs
users_inserted xs ys us vs f h name name_is by absent is place =
    subst (IsByUser user_of (held_in ys)) (sym place.2)
    (subst (λ m. IsByUser user_of m (insert us place.0 f)) (sym (held-inserted xs ys f h is))
    (inserted user_of (held_in xs) us by f h place.0 absent (subst (λ n. IsEndOf (names_in xs) n us place.0) name_is place.1)))

pub users_removed : (xs ys : List (FiveTuple × Held)) (us vs : List FiveTuple) (f : FiveTuple) (h : Held) → IsByUser user_of (held_in xs) us → fin.get (held_in xs) f ≡ Some h → Updated xs f None ys → (place : ℕ) × (slice_get us place ≡ Some f) × (vs ≡ remove us place) → IsByUser user_of (held_in ys) vs
users_removed xs ys us vs f h by there is place =
    subst (IsByUser user_of (held_in ys)) (sym place.2)
    (subst (λ m. IsByUser user_of m (remove us place.0)) (sym (held-removed xs ys f is)) (removed user_of (held_in xs) us by f h place.0 there place.1))

pub lists_purged : (t : ℕ) (xs ys : List (FiveTuple × Held)) → pairs ys ≡ map (still_pair t) (pairs xs) → {place : FiveTuple → Option ℕ} {holder : ℕ → Option FiveTuple} (us : List FiveTuple) → IsIndexed (fin.get (held_in xs)) place holder × IsByUser user_of (held_in xs) us → IsIndexed (fin.get (held_in ys)) place holder × IsByUser user_of (held_in ys) us
lists_purged t xs ys are us lists = (
  indexed_ports lists.0 (fin.get (held_in ys)) (same_purged t xs ys are (λ e. e.port) refl),
  kept user_of user_of (held_in xs) (held_in ys) us (same_purged t xs ys are (λ e. e.user) refl) lists.1,
)

pub users_counted : (xs : List (FiveTuple × Held)) (us : List FiveTuple) → IsByUser user_of (held_in xs) us → (name : List ℕ) → count_by (λ f. bytes_eq (names_in xs f) name) us ≡ count_by (λ e. bytes_eq e.1.user name) (fin.entries (entries_of (held_in xs)))
users_counted xs us by name =
    counted-in user_of (λ e. e.user) (held_in xs) (entries_of (held_in xs)) us
    (λ f. ap (option_map (λ e. e.user)) (get-entries_of (held_in xs) f) ∙ mapped_twice (λ e. e.user) (λ h. h.entry) (fin.get (held_in xs) f)) by name
