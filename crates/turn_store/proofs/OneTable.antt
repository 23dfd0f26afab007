-- What an image represents is one table.
use Rattle.std.proofs.Common.{◌≡◌, ℕ, ◌≤◌, List, [], ◌∷◌, ◌++◌, map, max, refl, sym, ◌∙◌, ap, subst, arith}
use Rattle.std.specs.List.{AllByRecursion}
use Rattle.turn_history.specs.Prelude.{FitsAfter, Event, History, clock, table, Bounds}
use Rattle.turn_history.proofs.Histories.{same_table}
use Rattle.turn_record.specs.Prelude.{payload, IsBatch}
use Rattle.turn_record.proofs.Batches.{one_payload}
use Rattle.turn_store.specs.Prelude.{Version, Form, RepresentsAt, Snapshot, Encodes, all_of}
use Rattle.turn_store.proofs.Fronts.{front_is, encoded_once}
use Rattle.turn_store.proofs.Replayed.{at}
use Rattle.turn_store.proofs.Sound.{holds_once}
use Rattle.turn_store.proofs.Encoding.{are_batches, of_encoded}
use Rattle.turn_types.specs.Prelude.{AreInRange}

batches_once : (v : Version) (b : Bounds) → AreInRange b → (xs ys : List (List Event)) → AllByRecursion (IsBatch v b) xs → AllByRecursion (IsBatch v b) ys → map payload xs ≡ map payload ys → xs ≡ ys
batches_once v b range [] [] one two same = refl
batches_once v b range [] (y ∷ ys) one two same = cc
batches_once v b range (x ∷ xs) [] one two same = cc
batches_once v b range (x ∷ xs) (y ∷ ys) one two same =
    let heads : payload x ≡ payload y = ap (λ (l : List (List ℕ)). head_of l) same in
    let tails : map payload xs ≡ map payload ys = ap (λ (l : List (List ℕ)). tail_of l) same in
    let here = (one_payload b range v v x y [] [] one.0 two.0 (ap (λ (l : List ℕ). l ++ []) heads)).0 in
    ap (λ (e : List Event). e ∷ xs) here ∙ ap (λ (l : List (List Event)). y ∷ l) (batches_once v b range xs ys one.1 two.1 tails)
  where
    head_of : List (List ℕ) → List ℕ
    head_of [] = []
    head_of (l ∷ ls) = l

    tail_of : List (List ℕ) → List (List ℕ)
    tail_of [] = []
    tail_of (l ∷ ls) = ls

-- bytes encode one table
pub one_table : (v : Version) (b : Bounds) → AreInRange b → (g h : History) (c d : ℕ) (s : List ℕ) (ps : List (List ℕ)) → Encodes v b g c s ps → Encodes v b h d s ps
    → (c ≡ d) × ((t : ℕ) → c ≤ t → table g t ≡ table h t)
one_table v b range g h c d s ps one two =
    let parts = of_encoded v b g c s ps one in
    let others = of_encoded v b h d s ps two in
    let first : at one.before one.moment ≡ at two.before two.moment =
    encoded_once v b range (at one.before one.moment) (at two.before two.moment) s (front_is v b g c s ps one) (front_is v b h d s ps two) in
    let moments : one.moment ≡ two.moment = ap (λ (x : Snapshot). x.moment) first in
    let tables : table one.before one.moment ≡ table two.before two.moment = ap (λ (x : Snapshot). x.contents) first in
    let batches : one.batches ≡ two.batches = batches_once v b range one.batches two.batches (are_batches v b one.before one.batches parts.1 one.sizes) (are_batches v b two.before two.batches others.1 two.sizes)
    (sym one.are_payloads ∙ two.are_payloads) in
    let events : all_of one.batches ≡ all_of two.batches = ap all_of batches in
    let clocks : c ≡ d = one.clock_is ∙ ap (λ (m : ℕ). max m (clock (all_of one.batches))) moments ∙ ap (λ (l : History). max two.moment (clock l)) events ∙ sym two.clock_is in
    let es = all_of one.batches in
    let fits_there = subst (λ (l : History). FitsAfter b two.before l) (sym events) others.1 in
    let same_moment : table one.before one.moment ≡ table two.before one.moment = tables ∙ ap (λ (m : ℕ). table two.before m) (sym moments) in (
      clocks,
      λ t le.
          let clock_is = one.clock_is in
          ap (λ (l : History). table l t) one.whole
          ∙ same_table b one.before two.before es one.moment t same_moment one.from parts.1 fits_there (omega arith) (omega arith)
          ∙ ap (λ (l : History). table (two.before ++ l) t) events
          ∙ ap (λ (l : History). table l t) (sym two.whole),
    )

pub image_once : (first second : Form) (g h : History) (c d : ℕ) (image : List ℕ) → RepresentsAt first g c image → RepresentsAt second h d image
    → (first ≡ second) × (c ≡ d) × ((t : ℕ) → c ≤ t → table g t ≡ table h t)
image_once first second g h c d image one two =
    let once = holds_once one.version two.version first second one.snapshot two.snapshot one.payloads two.payloads image one.holds two.holds in
    let bounds_there = subst (λ (x : Form). Encodes two.version x.bounds h d two.snapshot two.payloads) (sym once.0) two.encodes in
    let version_there = subst (λ (v : Version). Encodes v first.bounds h d two.snapshot two.payloads) (sym once.1) bounds_there in
    let snapshot_there = subst (λ (s : List ℕ). Encodes one.version first.bounds h d s two.payloads) (sym once.2) version_there in
    let encodes = subst (λ (ps : List (List ℕ)). Encodes one.version first.bounds h d one.snapshot ps) (sym once.3) snapshot_there in
    let tables = one_table one.version first.bounds one.holds.active.is_form.in_range g h c d one.snapshot one.payloads one.encodes encodes in
    (once.0, tables.0, tables.1)
