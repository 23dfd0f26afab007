-- What a recorded write is in the trace.
use Rattle.std.proofs.Common.{◌≡◌, ℕ, ◌+◌, ◌-◌, ◌≤◌, List, [], ◌∷◌, ◌++◌, length, take, drop, reverse, sym, ◌∙◌, ap, subst, arith}
use Rattle.std.proofs.lemmas.List.{length-take, length-drop, length-append, take_at, drop_at, reverse-append}
use Rattle.turn_disk.specs.Prelude.{Range, State, Writes, replaced_at, pending_of, past_of, trace_of}
use Rattle.turn_disk.proofs.Replaced.{middle_is, undone, changes}
use Rattle.turn_disk.specs.declared.call.Call.{Call}
use Rattle.turn_disk.specs.declared.call.Call.TheVariants.{Wrote}

abbrev pub range_of : ℕ → ℕ → Range
range_of at count = record { at = at; count = count }

pub reverse_push : (calls : List Call) (call : Call) → reverse (calls ++ call ∷ []) ≡ call ∷ reverse calls
reverse_push calls call = reverse-append calls (call ∷ [])

noted_there : (at : ℕ) (bytes content old replaced : List ℕ) (calls : List Call) → at + length bytes ≤ length content
    → old ≡ take (length bytes) (drop at content)
    → Writes at bytes (trace_of calls replaced content) (trace_of (calls ++ Wrote at (length old) ∷ []) (replaced ++ old) (replaced_at at bytes content))
noted_there at bytes content old replaced calls fits is =
    let content' = replaced_at at bytes content in
    let call = Wrote at (length old) in
    let long : length old ≡ length bytes = omega (arith, ap length is, length-take (length bytes) (drop at content), length-drop at content) in
    let gone : length (replaced ++ old) - length old ≡ length replaced = omega (arith, length-append replaced old) in
    let kept : drop (length (replaced ++ old) - length old) (replaced ++ old) ≡ old = drop_at replaced old _ (sym gone) in
    let rest : take (length (replaced ++ old) - length old) (replaced ++ old) ≡ replaced = take_at replaced old _ (sym gone) in
    let pending : pending_of (reverse (calls ++ call ∷ [])) ≡ (range_of at (length bytes)) ∷ pending_of (reverse calls) =
    ap pending_of (reverse_push calls call) ∙ ap (λ (n : ℕ). range_of at n ∷ pending_of (reverse calls)) long in
    let S : List ℕ → List ℕ → List State = λ before rest. record { bytes = before; pending = range_of at (length old) ∷ pending_of (reverse calls) } ∷ past_of (reverse calls) rest before in
    let past : past_of (reverse (calls ++ call ∷ [])) (replaced ++ old) content' ≡ S content replaced =
    ap (λ (cs : List Call). past_of cs (replaced ++ old) content') (reverse_push calls call)
    ∙ ap (λ (o : List ℕ). S (replaced_at at o content') (take (length (replaced ++ old) - length old) (replaced ++ old))) kept
    ∙ ap (λ (r : List ℕ). S (replaced_at at old content') r) rest
    ∙ ap (λ (b : List ℕ). S b replaced) (undone at bytes content fits old is) in
    record {
      range = record {
        content = changes at bytes content fits;
        pending = pending;
        past = past ∙ ap (λ (n : ℕ). let inside : State = record { bytes = content; pending = range_of at n ∷ pending_of (reverse calls) } in inside ∷ past_of (reverse calls) replaced content) long;
      };
      written = middle_is at bytes content fits;
    }

pub noted : (at : ℕ) (bytes content old replaced : List ℕ) (calls : List Call) → at + length bytes ≤ length content
    → old ≡ take (length bytes) (drop at content)
    → (calls' : List Call) (replaced' content' : List ℕ)
    → calls' ≡ calls ++ Wrote at (length old) ∷ [] → replaced' ≡ replaced ++ old → content' ≡ replaced_at at bytes content
    → Writes at bytes (trace_of calls replaced content) (trace_of calls' replaced' content')
noted at bytes content old replaced calls fits is calls' replaced' content' calls_is replaced_is content_is =
    let old_trace = trace_of calls replaced content in
    subst (λ (c : List Call). Writes at bytes old_trace (trace_of c replaced' content')) (sym calls_is)
    (subst (λ (r : List ℕ). Writes at bytes old_trace (trace_of (calls ++ Wrote at (length old) ∷ []) r content')) (sym replaced_is)
    (subst (λ (b : List ℕ). Writes at bytes old_trace (trace_of (calls ++ Wrote at (length old) ∷ []) (replaced ++ old) b)) (sym content_is)
    (noted_there at bytes content old replaced calls fits is)))
