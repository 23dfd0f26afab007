-- A snapshot that was read in pieces.
use Rattle.std.proofs.Common.{◌≡◌, inl, inr, ℕ, ◌+◌, ◌-◌, ◌≤◌, ◌<◌, List, ◌++◌, Ok, Err, length, take, drop, refl, sym, ◌∙◌, ap, subst, arith}
use Rattle.std.proofs.lemmas.Bool.{cases_lt}
use Rattle.std.proofs.lemmas.List.{length-take, length-drop, take-append-drop, drop-drop, get_or_append_left, get_or-append_right}
use Rattle.std.proofs.Math.Seq.{take-append-add}
use Rattle.turn_disk.proofs.Standing.{stands_read}
use Rattle.turn_record.specs.Prelude.{IsSnapshot, snapshot_in}
use Rattle.turn_store.specs.Prelude.{DecodeError, Version, AreBytes, HasBytes, IsBadSnapshot, IsGoodSnapshot, Snapshot}
use Rattle.turn_record.proofs.Snapshots.{snapshot_found, snapshot_again}
use Rattle.turn_types.specs.Prelude.{AreInRange}
use Rattle.turn_types.specs.declared.limits.Bounds.{Bounds}

take_plus : (m n : ℕ) (xs : List ℕ) → m ≤ length xs → take (m + n) xs ≡ take m xs ++ take n (drop m xs)
take_plus m n xs le =
    let long : length (take m xs) ≡ m = omega (arith, length-take m xs, le) in
    ap (λ (l : List ℕ). take (m + n) l) (sym (take-append-drop m xs)) ∙ ap (λ (k : ℕ). take (k + n) (take m xs ++ drop m xs)) (sym long) ∙ take-append-add (take m xs) (drop m xs) n

-- one piece more
pub piece_more : (at done size : ℕ) (c : List ℕ) → at + done ≤ length c → take (done + size) (drop at c) ≡ take done (drop at c) ++ take size (drop (at + done) c)
piece_more at done size c le =
    take_plus done size (drop at c) (omega (arith, length-drop at c, le)) ∙ ap (λ (l : List ℕ). take done (drop at c) ++ take size l) (drop-drop done at c)

pub bytes_join : (xs ys : List ℕ) → AreBytes xs → AreBytes ys → AreBytes (xs ++ ys)
bytes_join xs ys one two i = elim (cases_lt i (length xs)) [
  | inl low ↦ subst (λ (n : ℕ). n < 256) (sym (get_or_append_left xs ys 0 i low)) (one i)
  | inr high ↦ subst (λ (n : ℕ). n < 256) (sym (get_or-append_right xs ys (length xs) i 0 refl high)) (two (i - length xs))
]

has_bytes : (at count : ℕ) (c : List ℕ) → at + count ≤ length c → HasBytes at count (take count (drop at c)) c
has_bytes at count c le = record { long = omega (arith, length-take count (drop at c), length-drop at c, le); stands = stands_read at count (take count (drop at c)) c refl }

pub fed_snapshot : (v : Version) (b : Bounds) → AreInRange b → (bytes : List ℕ) → AreBytes bytes → (s : Snapshot) → snapshot_in v b bytes ≡ Ok (s.moment, s.contents) → IsSnapshot v b s.moment s.contents
fed_snapshot v b range bytes are s is = (snapshot_found v b range bytes are (s.moment, s.contents) is).fits

pub good_snapshot : (v : Version) (b : Bounds) → AreInRange b → (at count : ℕ) (c : List ℕ) (s : Snapshot) → at + count ≤ length c → AreBytes (take count (drop at c)) → snapshot_in v b (take count (drop at c)) ≡ Ok (s.moment, s.contents)
    → IsGoodSnapshot v b at count s c
good_snapshot v b range at count c s le bytes is = record {
  bytes = take count (drop at c);
  has = has_bytes at count c le;
  encodes = snapshot_found v b range (take count (drop at c)) bytes (s.moment, s.contents) is;
}

pub bad_snapshot : (v : Version) (b : Bounds) → AreInRange b → (at count : ℕ) (c : List ℕ) (f : DecodeError) → at + count ≤ length c → snapshot_in v b (take count (drop at c)) ≡ Err f → IsBadSnapshot v b at count c
bad_snapshot v b range at count c f le is = record {
  bytes = take count (drop at c);
  has = has_bytes at count c le;
  none = λ t contents encoded. let other = sym is ∙ snapshot_again v b range (take count (drop at c)) t contents encoded in absurd (cc);
}
