-- Reads and writes in pieces: the first one, and those of the rest.
use Rattle.std.proofs.Common.{◌≡◌, ◌≤◌, ◌+◌, ◌++◌, ℕ, Bool, List, [], ◌∷◌, length, take, drop, ap, sym, ◌∙◌, arith}
use Rattle.std.proofs.lemmas.List.{append_assoc, drop-take, drop-drop, take-append-drop, length-take, length-drop}
use Rattle.turn_nbd.specs.Requests.{joined, exchange, reads, writes, next_cookie, write_kind}
use Rattle.turn_nbd.specs.declared.request.Kind.TheVariants.{Read}

-- a part, and what follows it
part_and_rest : (done count : ℕ) (xs : List ℕ) → take count (drop done xs) ++ drop (done + count) xs ≡ drop done xs
part_and_rest done count xs =
    ap (λ (rest : List ℕ). take count (drop done xs) ++ rest) (sym (drop-drop count done xs)) ∙ take-append-drop count (drop done xs)

-- the length of a part
part_size : (done count : ℕ) (xs : List ℕ) → done + count ≤ length xs → length (take count (drop done xs)) ≡ count
part_size done count xs within = omega (arith, length-take count (drop done xs), length-drop done xs)

-- a part is the same where the front is
same_part : (done count : ℕ) (xs ys : List ℕ) → take (done + count) xs ≡ take (done + count) ys
    → take count (drop done xs) ≡ take count (drop done ys)
same_part done count xs ys front =
    sym (drop-take done count xs) ∙ ap (λ (zs : List ℕ). drop done zs) front ∙ drop-take done count ys

-- what passes at one piece and the rest
regroup : (old mid new first others : List (Bool × ℕ)) → mid ≡ old ++ first → new ≡ mid ++ others → new ≡ old ++ (first ++ others)
regroup old mid new first others m n =
    n ∙ ap (λ (passed : List (Bool × ℕ)). passed ++ others) m ∙ append_assoc old first others

pub reads_more : (old mid new : List (Bool × ℕ)) (cookie next at done count : ℕ) (b c : List ℕ) → done + count ≤ length b
    → mid ≡ old ++ exchange Read cookie (at + done) count [] (take count (drop done b)) → next ≡ next_cookie cookie
    → take (done + count) c ≡ take (done + count) b
    → (pieces : List (List ℕ)) × (joined pieces ≡ drop (done + count) c) × (new ≡ mid ++ reads next (at + (done + count)) pieces)
    → (pieces : List (List ℕ)) × (joined pieces ≡ drop done c) × (new ≡ old ++ reads cookie (at + done) pieces)
reads_more old mid new cookie next at done count b c within first follows front rest =
    let piece = take count (drop done b) in
    let size : length piece ≡ count = part_size done count b within in
    let place : at + (done + count) ≡ at + done + length piece = omega arith in
    let others : reads next (at + (done + count)) rest.0 ≡ reads (next_cookie cookie) (at + done + length piece) rest.0 =
    ap (λ (n : ℕ). reads n (at + (done + count)) rest.0) follows ∙ ap (λ (n : ℕ). reads (next_cookie cookie) n rest.0) place in
    let whole : piece ++ joined rest.0 ≡ drop done c =
    ap (λ (xs : List ℕ). piece ++ xs) rest.1
    ∙ ap (λ (xs : List ℕ). xs ++ drop (done + count) c) (sym (same_part done count c b front)) ∙ part_and_rest done count c in (
      piece ∷ rest.0,
      whole,
      regroup old mid new _ _ first rest.2
          ∙ ap (λ (n : ℕ). old ++ (exchange Read cookie (at + done) n [] piece ++ reads next (at + (done + count)) rest.0)) (sym size)
          ∙ ap (λ (passed : List (Bool × ℕ)). old ++ (exchange Read cookie (at + done) (length piece) [] piece ++ passed)) others,
    )

pub writes_more : (is_durable : Bool) (old mid new : List (Bool × ℕ)) (cookie next at done count : ℕ) (b : List ℕ) → done + count ≤ length b
    → mid ≡ old ++ exchange (write_kind is_durable) cookie (at + done) count (take count (drop done b)) [] → next ≡ next_cookie cookie
    → (pieces : List (List ℕ)) × (joined pieces ≡ drop (done + count) b) × (new ≡ mid ++ writes is_durable next (at + (done + count)) pieces)
    → (pieces : List (List ℕ)) × (joined pieces ≡ drop done b) × (new ≡ old ++ writes is_durable cookie (at + done) pieces)
writes_more is_durable old mid new cookie next at done count b within first follows rest =
    let piece = take count (drop done b) in
    let size : length piece ≡ count = part_size done count b within in
    let place : at + (done + count) ≡ at + done + length piece = omega arith in
    let others : writes is_durable next (at + (done + count)) rest.0 ≡ writes is_durable (next_cookie cookie) (at + done + length piece) rest.0 =
    ap (λ (n : ℕ). writes is_durable n (at + (done + count)) rest.0) follows ∙ ap (λ (n : ℕ). writes is_durable (next_cookie cookie) n rest.0) place in (
      piece ∷ rest.0,
      ap (λ (xs : List ℕ). piece ++ xs) rest.1 ∙ part_and_rest done count b,
      regroup old mid new _ _ first rest.2
          ∙ ap (λ (n : ℕ). old ++ (exchange (write_kind is_durable) cookie (at + done) n piece [] ++ writes is_durable next (at + (done + count)) rest.0)) (sym size)
          ∙ ap (λ (passed : List (Bool × ℕ)). old ++ (exchange (write_kind is_durable) cookie (at + done) (length piece) piece [] ++ passed)) others,
    )
