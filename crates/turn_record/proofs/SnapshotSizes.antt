-- How many bytes snapshots have.
use Rattle.std.proofs.Common.{◌≡◌, ℕ, ◌+◌, ◌*◌, ◌≤◌, List, [], ◌∷◌, ◌++◌, length, refl, sym, ap, ◌∙◌, arith, length-append, IfSome, None, Option, Some, nat_cmp}
use Rattle.std.proofs.Math.Nat.{mul-le-mul_right}
use Rattle.std.specs.FinMap as fin
use Rattle.std.specs.FinMap.{FinMap, len-entries, nat_cmp-IsAntisymmetric}
use Rattle.std.proofs.lemmas.Cmp.{nat_cmp_total}
use Rattle.std.specs.Int.{w32, w64, to_be_bytes}
use Rattle.std.specs.List.{AllByRecursion}
use Rattle.turn_history.proofs.Entries.{all_entries}
use Rattle.turn_history.proofs.Maps.{tuple_total, tuple_exact}
use Rattle.turn_history.specs.Prelude.{AreReservationsInRange, IsTableAt, IsTokenAfter, allocation_of, Contents, Entry, FiveTuple, Bounds, Token}
use Rattle.turn_history.specs.declared.channel.Channel.{Channel}
use Rattle.turn_history.specs.declared.reservation.Reservation.{Reservation}
use Rattle.turn_record.proofs.Apart.{all_more}
use Rattle.turn_record.proofs.Sizes.{each_at_most, size_each}
use Rattle.turn_record.specs.Prelude.{joined, each, five_tuple, allocation, mark, permission, permissions, channel, channels, entry, head, reservation, reserved, snapshot, entry_size, max_entry, max_reserved, max_snapshot, max_reserved_bytes, max_snapshot_bytes, IsShort, AreShort}
use Rattle.turn_record.specs.declared.version.Version.{Version}
use Rattle.turn_record.specs.declared.version.Version.TheVariants.{V1, V2}
use Rattle.turn_types.specs.Prelude.{AreInRange, max_bounds, max_allocations}

-- ---- A list of permissions or channels, as a map has it

pub permissions_are : (m : FinMap nat_cmp ℕ) → (length (fin.entries m) ∷ []) ++ each permission (fin.entries m) ≡ permissions m
unfolding permissions
permissions_are m = ap (λ n. (n ∷ []) ++ each permission (fin.entries m)) (sym (len-entries m))

pub channels_are : (m : FinMap nat_cmp Channel) → (length (fin.entries m) ∷ []) ++ each channel (fin.entries m) ≡ channels m
unfolding channels
channels_are m = ap (λ n. (n ∷ []) ++ each channel (fin.entries m)) (sym (len-entries m))

pub reserved_are : (rs : List (ℕ × Reservation)) (m : FinMap nat_cmp Reservation) → rs ≡ fin.entries m → to_be_bytes w32 (length rs) ++ each reservation rs ≡ reserved V2 m
unfolding reserved
reserved_are rs m is =
    ap (λ (es : List (ℕ × Reservation)). to_be_bytes w32 (length es) ++ each reservation es) is ∙ ap (λ (n : ℕ). to_be_bytes w32 n ++ each reservation (fin.entries m)) (sym (len-entries m))

-- ---- Sizes

-- of what was appended to
pub grown : (before after field : List ℕ) (n k : ℕ) → after ≡ before ++ field → length before ≡ n → length field ≡ k → length after ≡ n + k
grown before after field n k is p q = omega (arith, ap length is, length-append before field, p, q)

pub size_permission_list : (ps : List (ℕ × ℕ)) → length ((length ps ∷ []) ++ each permission ps) ≡ 1 + 12 * length ps
size_permission_list ps = omega (arith, size_each permission 12 (λ x. refl) ps)

size_permissions : (m : FinMap nat_cmp ℕ) → length (permissions m) ≡ 1 + 12 * fin.len m
unfolding permissions
size_permissions m = omega (arith, size_each permission 12 (λ x. refl) (fin.entries m), len-entries m)

size_channels : (m : FinMap nat_cmp Channel) → length (channels m) ≡ 1 + 16 * fin.len m
unfolding channels
size_channels m = omega (arith, size_each channel 16 (λ x. refl) (fin.entries m), len-entries m)

size6 : (a b c d e f : List ℕ) → length (joined (a ∷ b ∷ c ∷ d ∷ e ∷ f ∷ [])) ≡ length a + (length b + (length c + (length d + (length e + length f))))
size6 a b c d e f = simp length-append (omega arith)

pub size_allocation : (e : Entry) → length e.tx.0 ≡ 12 → length (allocation (allocation_of e)) ≡ 20 + length e.user
size_allocation e tx = simp length-append (omega arith)

pub size_entry : (v : Version) (f : FiveTuple) (e : Entry) → length e.tx.0 ≡ 12 → length (entry v (f, e)) ≡ 42 + length (mark v e.token) + length e.user + 12 * fin.len e.permissions + 16 * fin.len e.channels
unfolding entry
size_entry v f e tx =
    let all = size6 (five_tuple f) (allocation (allocation_of e)) (mark v e.token) (to_be_bytes w64 e.expiry) (permissions e.permissions) (channels e.channels) in
    let made = size_allocation e tx in
    let ps = size_permissions e.permissions in
    let cs = size_channels e.channels in
    omega arith

pub some_bytes : (v : Version) (f : FiveTuple) (e : Entry) → 12 ≤ length (entry v (f, e))
unfolding entry
some_bytes v f e = omega (arith, size6 (five_tuple f) (allocation (allocation_of e)) (mark v e.token) (to_be_bytes w64 e.expiry) (permissions e.permissions) (channels e.channels))

pub mark_at_most : (v : Version) (o : Option Token) → IfSome o (λ k. length k.0 ≡ 8) → 42 + length (mark v o) ≤ entry_size v
mark_at_most V1 o h = omega arith
mark_at_most V2 None h = omega arith
mark_at_most V2 (Some k) h = omega (arith, h)

pub entry_size_most : (v : Version) → entry_size v ≤ 51
entry_size_most V1 = omega arith
entry_size_most V2 = omega arith

entry_at_most : (v : Version) (b : Bounds) (p : FiveTuple × Entry) → IsShort b p.1 → length (entry v p) ≤ max_entry v b
entry_at_most v b p s = omega (arith, size_entry v p.0 p.1 s.tx, mark_at_most v p.1.token s.token, s.user, s.permissions, s.channels)

token_sized : (port : ℕ) (o : Option Token) → IfSome o (IsTokenAfter port) → IfSome o (λ k. length k.0 ≡ 8)
token_sized port None h = tt
token_sized port (Some k) h = h.1.size

-- the entries of a table
short_under : (b : Bounds) (t : ℕ) (c : Contents) → IsTableAt b t c → AllByRecursion (λ p. IsShort b p.1) (fin.entries c.entries)
short_under b t c s =
    all_entries tuple_total tuple_exact (λ p. IsShort b p.1) c.entries
    (λ f e is. let w = s.values f e is in record { user = w.1.made.0.1; tx = w.1.made.3.0; token = token_sized e.port e.token w.1.made.4; permissions = s.within.permissions f e is; channels = s.within.channels f e is })

-- ---- Reserved ports

size_reservation : (r : ℕ × Reservation) → length r.1.token.0 ≡ 8 → length (reservation r) ≡ 18
size_reservation r size = simp length-append (omega arith)

size_each_of : {A : Type 0} (s : A → List ℕ) (P : A → Type 0) (k : ℕ) → ((x : A) → P x → length (s x) ≡ k) → (xs : List A) → AllByRecursion P xs → length (each s xs) ≡ k * length xs
size_each_of s P k h [] all = omega arith
size_each_of s P k h (x ∷ xs) all = omega (arith, length-append (s x) (each s xs), h x all.0, size_each_of s P k h xs all.1)

pub size_reserved : (c : Contents) (t : ℕ) → AreReservationsInRange t c → length (reserved V2 c.reserved) ≡ 4 + 18 * fin.len c.reserved
unfolding reserved
size_reserved c t range =
    let all = all_entries nat_cmp_total nat_cmp-IsAntisymmetric (λ (r : ℕ × Reservation). length r.1.token.0 ≡ 8) c.reserved (λ q r is. (range q r is).token.size) in
    let one = size_each_of reservation (λ (r : ℕ × Reservation). length r.1.token.0 ≡ 8) 18 size_reservation (fin.entries c.reserved) all in
    omega (arith, one, len-entries c.reserved, length-append (to_be_bytes w32 (fin.len c.reserved)) (each reservation (fin.entries c.reserved)))

pub reserved_at_most : (v : Version) (b : Bounds) (t : ℕ) (c : Contents) → IsTableAt b t c → length (reserved v c.reserved) ≤ max_reserved v b
unfolding reserved
reserved_at_most V1 b t c s = omega arith
reserved_at_most V2 b t c s = omega (arith, size_reserved c t s.reserved, s.within.reserved)

pub max_reserved_small : (v : Version) (b : Bounds) → AreInRange b → max_reserved v b ≤ max_reserved_bytes
max_reserved_small V1 b range = omega arith
max_reserved_small V2 b range = omega (arith, range.allocations.1)

-- ---- Snapshots

pub size_snapshot : (v : Version) (t : ℕ) (c : Contents) → length (snapshot v t c) ≡ 12 + length (each (entry v) (fin.entries c.entries)) + length (reserved v c.reserved)
unfolding snapshot
size_snapshot v t c =
    omega (arith, length-append (head t (fin.len c.entries)) (each (entry v) (fin.entries c.entries) ++ reserved v c.reserved), length-append (each (entry v) (fin.entries c.entries)) (reserved v c.reserved))

pub snapshot_at_most : (v : Version) (b : Bounds) (t : ℕ) (c : Contents) → IsTableAt b t c → length (snapshot v t c) ≤ max_snapshot v b
snapshot_at_most v b t c s =
    let one : length (each (entry v) (fin.entries c.entries)) ≤ length (fin.entries c.entries) * max_entry v b = each_at_most (entry v) (λ p. IsShort b p.1) (max_entry v b) (entry_at_most v b) (fin.entries c.entries) (short_under b t c s) in
    let few : length (fin.entries c.entries) ≤ b.allocations = omega (arith, len-entries c.entries, s.within.allocations) in
    let two : length (fin.entries c.entries) * max_entry v b ≤ b.allocations * max_entry v b = mul-le-mul_right (max_entry v b) few in
    omega (arith, one, two, size_snapshot v t c, reserved_at_most v b t c s)

-- whatever the limits are
pub snapshot_small : (v : Version) (b : Bounds) (t : ℕ) (c : Contents) → AreInRange b → IsTableAt b t c → length (snapshot v t c) ≤ max_snapshot_bytes
snapshot_small v b t c range s =
    let one : b.allocations * max_entry v b ≤ max_allocations * max_entry v b = mul-le-mul_right (max_entry v b) range.allocations.1 in
    omega (arith, one, snapshot_at_most v b t c s, range.name_bytes.1, range.permissions.1, range.channels.1, entry_size_most v, max_reserved_small v b range)

-- under the max limits too
pub are_short : (b : Bounds) (t : ℕ) (c : Contents) → AreInRange b → IsTableAt b t c → AreShort (fin.entries c.entries)
are_short b t c range s =
    all_more (λ (p : FiveTuple × Entry). IsShort b p.1) (λ p. IsShort max_bounds p.1)
    (λ p h. record { user = omega (arith, h.user, range.name_bytes); tx = h.tx; token = h.token; permissions = omega (arith, h.permissions, range.permissions); channels = omega (arith, h.channels, range.channels) })
    (fin.entries c.entries) (short_under b t c s)
