-- How many bytes encodings have, and that lengths fit the bytes that they are written in.
use Rattle.std.proofs.Common.{◌≡◌, ℕ, ◌+◌, ◌*◌, ◌≤◌, List, [], ◌∷◌, All, length, refl, arith, length-append, None, Some}
use Rattle.std.proofs.Math.Nat.{mul-le-mul_right}
use Rattle.std.specs.Int.{w32, to_be_bytes}
use Rattle.std.specs.List.{AllByRecursion}
use Rattle.std.proofs.lemmas.List.Elements.{All-from_recursion}
use Rattle.turn_history.specs.Prelude.{IsActInRange, IsInRange, PlainAct, Allocates, Renews, Permits, Binds, Event, act_of, event_of, Bounds}
use Rattle.turn_record.specs.Prelude.{each, addresses, body, act_entry, payload, events_of, HasShortParts, IsBatch, Writes, max_act, max_payload, max_act_bytes}
use Rattle.turn_history.specs.declared.event.Event as accepted
use Rattle.turn_record.proofs.Apart.{all_two}
use Rattle.turn_record.proofs.Last.{length-map}
use Rattle.turn_record.specs.declared.version.Version.{Version}
use Rattle.turn_record.specs.declared.version.Version.TheVariants.{V1, V2}
use Rattle.turn_types.specs.Prelude.{AreInRange}

pub size_each : {A : Type 0} (s : A → List ℕ) (k : ℕ) → ((x : A) → length (s x) ≡ k) → (xs : List A) → length (each s xs) ≡ k * length xs
size_each s k h [] = omega arith
size_each s k h (x ∷ xs) = omega (arith, length-append (s x) (each s xs), h x, size_each s k h xs)

pub size_addresses : (xs : List ℕ) → length (addresses xs) ≡ 1 + 4 * length xs
size_addresses xs = omega (arith, size_each (to_be_bytes w32) 4 (λ x. refl) xs)

pub each_at_most : {A : Type 0} (s : A → List ℕ) (P : A → Type 0) (k : ℕ) → ((x : A) → P x → length (s x) ≤ k) → (xs : List A) → AllByRecursion P xs → length (each s xs) ≤ length xs * k
each_at_most s P k h [] all = omega arith
each_at_most s P k h (x ∷ xs) all = omega (arith, length-append (s x) (each s xs), h x all.0, each_at_most s P k h xs all.1)

-- an event of a batch
abbrev IsWritten : Version → Bounds → Event → Type 0
IsWritten v b e = IsInRange b e × Writes v e.act

-- of an act after its tag, moment and five-tuple
body_at_most : (v : Version) (b : Bounds) (d : PlainAct) → Writes v d → IsActInRange b d → 21 + length (body d) ≤ max_act v b
body_at_most V1 b (Allocates user port granted tx None) writes h = simp length-append (omega (arith, h.0.1, h.3.0))
body_at_most V1 b (Allocates user port granted tx (Some k)) writes h = absurd cc
body_at_most V2 b (Allocates user port granted tx None) writes h = simp length-append (omega (arith, h.0.1, h.3.0))
body_at_most V2 b (Allocates user port granted tx (Some k)) writes h = simp length-append (omega (arith, h.0.1, h.3.0, h.4.1.size))
body_at_most v b (Renews granted) writes h = omega arith
body_at_most v b (Permits xs) writes h = omega (arith, h.0.1, size_addresses xs)
body_at_most v b (Binds number peer) writes h = omega arith

pub act_at_most : (v : Version) (b : Bounds) (e : Event) → Writes v e.act → IsInRange b e → length (act_entry e) ≤ max_act v b
act_at_most v b e writes h = omega (arith, length-append (body e.act) [], body_at_most v b e.act writes h.act)

events_at_most : (v : Version) (b : Bounds) (es : List Event) → IsBatch v b es → length (each act_entry es) ≤ length es * max_act v b
events_at_most v b es h = each_at_most act_entry (IsWritten v b) (max_act v b) (λ e p. act_at_most v b e p.1 p.0) es (all_two (IsInRange b) (λ e. Writes v e.act) (IsWritten v b) (λ e range writes. (range, writes)) es h.in_range h.writes)

-- of the code's events
pub acts_at_most : {A : Type 0} (v : Version) (b : Bounds) (es : List (accepted.Event A)) → IsBatch v b (events_of es) → length (each act_entry (events_of es)) ≤ length es * max_act v b
acts_at_most v b es h =
    let size = events_at_most v b (events_of es) h in
    rw (length-map event_of es) at size

-- a batch has few events, so the size of its payload fits
pub batch_at_most : {A : Type 0} (v : Version) (b : Bounds) → AreInRange b → (es : List (accepted.Event A)) → IsBatch v b (events_of es) → length es ≤ 64
batch_at_most v b range es h = omega (arith, length-map event_of es, h.few, range.acts.1)

pub product_at_most : (n m : ℕ) → n ≤ 64 → m ≤ max_act_bytes → n * m ≤ 35648
product_at_most n m few small = omega (arith, mul-le-mul_right m few, small)

pub payload_at_most : (v : Version) (b : Bounds) (es : List Event) → IsBatch v b es → length (payload es) ≤ max_payload v b
payload_at_most v b es h =
    let one : length (each act_entry es) ≤ length es * max_act v b = events_at_most v b es h in
    let two : length es * max_act v b ≤ b.acts * max_act v b = mul-le-mul_right (max_act v b) h.few in
    omega (arith, one, two)

-- ---- Lengths that fit the bytes that they are written in

short : (b : Bounds) → AreInRange b → (d : PlainAct) → IsActInRange b d → HasShortParts d
short b range (Allocates user port granted tx token) h = (omega (arith, h.0.1, range.name_bytes.1), h.3.0)
short b range (Renews granted) h = tt
short b range (Permits xs) h = omega (arith, h.0.1, range.permissions.1)
short b range (Binds number peer) h = tt

each_short : {A : Type 0} (b : Bounds) → AreInRange b → (es : List (accepted.Event A)) → AllByRecursion (IsInRange b) (events_of es) → AllByRecursion (λ e. HasShortParts (act_of e.act)) es
each_short b range [] all = tt
each_short b range (e ∷ es) all = (short b range (act_of e.act) all.0.act, each_short b range es all.1)

pub all_short : {A : Type 0} (b : Bounds) → AreInRange b → (es : List (accepted.Event A)) → AllByRecursion (IsInRange b) (events_of es) → All (λ e. HasShortParts (act_of e.act)) es
all_short b range es all = All-from_recursion (λ e. HasShortParts (act_of e.act)) es (each_short b range es all)
