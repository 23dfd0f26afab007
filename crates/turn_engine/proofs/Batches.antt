-- A payload with one act more.
use Rattle.std.proofs.Common.{◌≡◌, ◌≤◌, ◌<◌, ◌+◌, ℕ, List, [], ◌∷◌, ◌++◌, length, slice_index, slice_set, refl, sym, ap, ◌∙◌, arith, append_assoc, append-nil, length-append}
use Rattle.turn_history.specs.Prelude.{Event, FiveTuple, Bounds}
use Rattle.turn_record.specs.Prelude.{act_entry, each, payload, max_act}
use Rattle.turn_record.specs.declared.version.Version.{Version}
use Rattle.turn_engine.specs.Staged.{IsSound}

pub pushed-sound : (v : Version) (b : Bounds) (acts : ℕ) (bytes entry : List ℕ) (capacity more : ℕ) (tuples : List FiveTuple) (places wider : ℕ) (f : FiveTuple) → IsSound v b acts bytes capacity tuples places → acts < b.acts
    → length entry ≤ max_act v b → capacity ≤ more → places ≤ wider → IsSound v b (acts + 1) (slice_set (bytes ++ entry) 0 (acts + 1)) more (tuples ++ f ∷ []) wider
pushed-sound v b acts [] entry capacity more tuples places wider f s few short room wide = absurd (omega (arith, s.some))
pushed-sound v b acts (x ∷ xs) entry capacity more tuples places wider f s few short room wide =
    let size : length (xs ++ entry) ≡ length xs + length entry = length-append xs entry in
    record {
      in_range = s.in_range;
      few = omega arith;
      counted = refl;
      some = omega arith;
      short = omega (arith, s.short, size);
      room = omega (arith, s.room);
      each = length-append tuples (f ∷ []) ∙ ap (λ (n : ℕ). n + 1) s.each;
      places_for_all = omega (arith, s.places_for_all, wide);
    }

pub each-one_more : (es : List Event) (e : Event) → each act_entry (es ++ e ∷ []) ≡ each act_entry es ++ act_entry e
each-one_more [] e = append-nil (act_entry e)
each-one_more (x ∷ es) e = ap (λ (l : List ℕ). act_entry x ++ l) (each-one_more es e) ∙ sym (append_assoc (act_entry x) (each act_entry es) (act_entry e))

pub pushed-payload : (es : List Event) (e : Event) (bytes : List ℕ) (acts : ℕ) → bytes ≡ payload es → slice_index bytes 0 ≡ acts
    → slice_set (bytes ++ act_entry e) 0 (acts + 1) ≡ payload (es ++ e ∷ [])
pushed-payload es e bytes acts is counted =
    let first : acts ≡ length es = sym counted ∙ ap (λ (l : List ℕ). slice_index l 0) is in
    let size : acts + 1 ≡ length (es ++ e ∷ []) = omega (arith, length-append es (e ∷ []), first) in
    let rest : each act_entry es ++ act_entry e ≡ each act_entry (es ++ e ∷ []) = sym (each-one_more es e) in
    ap (λ (l : List ℕ). slice_set (l ++ act_entry e) 0 (acts + 1)) is ∙ ap (λ (n : ℕ). n ∷ (each act_entry es ++ act_entry e)) size
    ∙ ap (λ (l : List ℕ). length (es ++ e ∷ []) ∷ l) rest
