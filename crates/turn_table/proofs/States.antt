-- A table after a change.
use Rattle.std.proofs.Common.{◌≡◌, ℕ, ◌≤◌, ◌<◌, is_some, List, length, ◌-◌, slice_get, sym, ap, ◌∙◌, subst, Option, Some, None, IsSome, IsSomeAnd, MatchOption, option_map}
use Rattle.std.proofs.lemmas.List.{length-map}
use Rattle.std.proofs.lemmas.Option.{MatchOption-at_none, MatchOption-at_some, slice_get-map}
use Rattle.std.specs.FinMap as fin
use Rattle.turn_history.proofs.Maps.{tuple_total, tuple_exact}
use Rattle.turn_history.proofs.Tests.{free_port_is, port_is_free}
use Rattle.turn_history.specs.Prelude.{PortIsFree, has_port, Contents, Entry, Reservations, with_reservation, Bounds, FiveTuple}
use Rattle.turn_types.specs.Prelude.{tuple_cmp}
use Rattle.turn_table.specs.Prelude.{Changes, HasRoom, Holdings, Live, entries_of, placed, state_of, Held, Room, State, with_allocation, with_entry, without_entry}
use Rattle.turn_table.proofs.Held.{entries_of-insert, entries_of-remove, entry_at, get-entries_of, of_entry}
use Rattle.turn_table.proofs.Sorted.{entries-values_by, values_by}
use Rattle.turn_table.proofs.Options.{is_some_then, is_true, mapped_twice, none_of, some_none, some_then}

-- ---- Look-ups

pub matched : {X : Type 0} {P P' : Type 0} {Q Q' : X → Type 0} (r : Option X) → (P → P') → ((x : X) → Q x → Q' x) → MatchOption r P Q → MatchOption r P' Q'
matched None p q m = p m
matched (Some x) p q m = q x m

module _ (m : Holdings) {q : Reservations} (old : Contents) (view_is : record { entries = entries_of m; reserved = q } ≡ old) where
  -- an entry, with its rooms
  pub held_of : (f : FiveTuple) (e : Entry) → fin.get old.entries f ≡ Some e → (h : Held) × (fin.get m f ≡ Some h) × (h.entry ≡ e)
  held_of f e is = of_entry m f e (ap (λ c. fin.get c.entries f) view_is ∙ is)

  pub entry_of : (f : FiveTuple) (h : Held) → fin.get m f ≡ Some h → fin.get old.entries f ≡ Some h.entry
  entry_of f h is = ap (λ c. fin.get c.entries f) (sym view_is) ∙ entry_at m f h is

  pub absent_of : (f : FiveTuple) → fin.get old.entries f ≡ None → fin.get m f ≡ None
  absent_of f none = none_of (fin.get m f) (λ h at. some_none (entry_of f h at) none)

  pub there_of : (f : FiveTuple) → IsSome (fin.get old.entries f) → IsSome (fin.get m f)
  there_of f some = is_some_then (fin.get old.entries f) some (λ e at. let h = held_of f e at in ap is_some h.1)

  pub free_of_port : (port : ℕ) → ((f : FiveTuple) (h : Held) → fin.get m f ≡ Some h → h.entry.port ≡ port → ⊥) → PortIsFree old port
  free_of_port port free f e is same = let at = held_of f e is in free f at.0 at.1 (ap (λ x. x.port) at.2 ∙ same)

  pub port_free_of : (port : ℕ) → PortIsFree old port → (f : FiveTuple) (h : Held) → fin.get m f ≡ Some h → h.entry.port ≡ port → ⊥
  port_free_of port free f h is = free f h.entry (entry_of f h is)

-- ---- The end

last_key : {Y : Type 0} → List (FiveTuple × Y) → Option FiveTuple
last_key xs = option_map (λ p. p.0) (slice_get xs (length xs - 1))

keyed_last : {Y : Type 0} (g : Held → Y) (xs : List (FiveTuple × Held)) → last_key (values_by tuple_cmp g xs) ≡ last_key xs
unfolding last_key
keyed_last {Y} g xs =
    let paired : FiveTuple × Held → FiveTuple × Y = λ e. (e.0, g e.1) in
    ap (λ n. option_map (λ (p : FiveTuple × Y). p.0) (slice_get (values_by tuple_cmp g xs) (n - 1))) (length-map xs paired)
    ∙ ap (option_map (λ (p : FiveTuple × Y). p.0)) (slice_get-map paired xs (length xs - 1))
    ∙ mapped_twice (λ (p : FiveTuple × Y). p.0) paired (slice_get xs (length xs - 1))

-- the five-tuple of the last entry
pub last-placed : (m : Holdings) → option_map (λ (p : FiveTuple × ℕ). p.0) (slice_get (placed m) (length (placed m) - 1)) ≡ option_map (λ (p : FiveTuple × Entry). p.0) (slice_get (fin.entries (entries_of m)) (length (fin.entries (entries_of m)) - 1))
unfolding last_key
last-placed m =
    keyed_last (λ h. h.entry.port) (fin.entries m)
    ∙ sym (ap last_key (entries-values_by tuple_total tuple_exact (λ h. h.entry) m (entries_of m) (get-entries_of m)) ∙ keyed_last (λ h. h.entry) (fin.entries m))

-- ---- Changes

module _ (b : Bounds) (t : ℕ) (m : Holdings) {q : Reservations} (r : Option Room) (old : State) (view_is : state_of b t m q r ≡ old) where
  pub state_after : (n : Holdings) (p : Reservations) (after : Contents → Contents) → record { entries = entries_of n; reserved = p } ≡ after (record { entries = entries_of m; reserved = q }) → state_of b t n p None ≡ record old { contents = after old.contents; room = None }
  state_after n p after is =
      ap (λ (c : Contents). record { bounds = b; moment = t; contents = c; room = None }) is ∙ ap (λ (s : State). record s { contents = after s.contents; room = None }) view_is

  pub same-is : (n : Holdings) {p : Reservations} → entries_of n ≡ entries_of m → p ≡ q → state_of b t n p None ≡ record old { room = None }
  same-is n {p} same is = state_after n p (λ c. c) (λ j. record { entries = same j; reserved = is j })

  pub with_entry-is : (n : Holdings) (f : FiveTuple) (h : Held) → n ≡ fin.insert m f h → state_of b t n q None ≡ with_entry old f h.entry
  with_entry-is n f h is =
      state_after n q (λ c. record c { entries = fin.insert c.entries f h.entry }) (λ j. record { entries = (ap entries_of is ∙ entries_of-insert m f h) j; reserved = q })

  pub without_entry-is : (n : Holdings) (f : FiveTuple) → n ≡ fin.remove m f → state_of b t n q None ≡ without_entry old f
  without_entry-is n f is =
      state_after n q (λ c. record c { entries = fin.remove c.entries f }) (λ j. record { entries = (ap entries_of is ∙ entries_of-remove m f) j; reserved = q })

  pub with_allocation-is : (n : Holdings) (f : FiveTuple) (h : Held) → n ≡ fin.insert m f h → (p : Reservations) → p ≡ with_reservation old.moment h.entry.port h.entry.token (fin.remove q h.entry.port) → state_of b t n p None ≡ with_allocation old f h.entry
  with_allocation-is n f h is p reserved =
      state_after n p (λ c. record { entries = fin.insert c.entries f h.entry; reserved = with_reservation old.moment h.entry.port h.entry.token (fin.remove c.reserved h.entry.port) })
      (λ j. record { entries = (ap entries_of is ∙ entries_of-insert m f h) j; reserved = reserved j })

  pub changed-is : (n : Holdings) (f : FiveTuple) (change : Entry → Entry) → Changes f change m n → IsSomeAnd (fin.get old.contents.entries f) (λ e. state_of b t n q None ≡ with_entry old f (change e))
  changed-is n f change changes = some_then _ (fin.get m f) changes (λ h at new.
      subst (λ o. IsSomeAnd o (λ e. state_of b t n q None ≡ with_entry old f (change e))) (sym (entry_of m old.contents (ap (λ s. s.contents) view_is) f h at))
      (with_entry-is n f new.0 new.2 ∙ ap (with_entry old f) new.1))

-- ---- Rooms and ports

-- where room was made for a five-tuple that has no entry, there is a place
pub room_for : (l : Live) (f : FiveTuple) → fin.get l.held f ≡ None → (o : Option Room) → ((r : Room) → o ≡ Some r → HasRoom r l) → IsSomeAnd o (λ r. r.tuple ≡ f) → 0 < l.room
room_for l f none o spare some = some_then _ o some (λ r at is. MatchOption-at_none _ _ (ap (fin.get l.held) is ∙ none) (spare r at))

-- and where it has one, there is the room inside
pub room_inside : (r : Room) (l : Live) → HasRoom r l → IsSome (fin.get l.held r.tuple) → IsSomeAnd (fin.get l.held r.tuple) (λ h. (r.permissions ≤ h.permission_room) × (r.channels ≤ h.channel_room))
room_inside r l room some = is_some_then (fin.get l.held r.tuple) some (λ h at. subst (λ o. IsSomeAnd o (λ h. (r.permissions ≤ h.permission_room) × (r.channels ≤ h.channel_room))) (sym at) (MatchOption-at_some _ _ h at room))

pub some_weaker : {X : Type 0} (P Q : X → Type 0) (o : Option X) → ((x : X) → P x → Q x) → IsSomeAnd o P → IsSomeAnd o Q
some_weaker P Q None weaker some = absurd some
some_weaker P Q (Some x) weaker some = weaker x some

-- what holds of what is held holds of the entry
pub some_of : (m : Holdings) {q : Reservations} (old : Contents) (view_is : record { entries = entries_of m; reserved = q } ≡ old) (P : Entry → Type 0) (f : FiveTuple) → IsSomeAnd (fin.get m f) (λ h. P h.entry) → IsSomeAnd (fin.get old.entries f) P
some_of m old view_is P f some = some_then _ (fin.get m f) some (λ h at p. subst (λ o. IsSomeAnd o P) (sym (entry_of m old view_is f h at)) p)

pub taken_by : {X : Type 0} (c : Contents) (port : ℕ) (entry : X → FiveTuple × Entry) (r : Option X) → MatchOption r (PortIsFree c port) (λ x. (fin.get c.entries (entry x).0 ≡ Some (entry x).1) × ((entry x).1.port ≡ port)) → is_some r ≡ has_port c port
taken_by c port entry None free = sym (free_port_is c port free)
taken_by c port entry (Some x) found = sym (is_true _ (λ free. port_is_free c port free (entry x).0 (entry x).1 found.0 found.1))
