-- A walk over ports that rise, to the lowest that isn't among them.
use Rattle.std.proofs.Common.{◌≡◌, ℕ, zero, suc, ◌+◌, ◌-◌, ◌%◌, ◌<◌, ◌≤◌, ◌^◌, Bool, true, false, cond, is_some, arith, T, Option, Some, None, option_map, slice_get, List, [], ◌∷◌, length, take, drop, get_or, drop-cons, add-one, refl, sym, ap, ◌∙◌, subst, Less, Equal, Greater, nat_cmp, is_eq}
use Rattle.std.specs.Cmp.{nat_cmp_is, ranked}
use Rattle.std.proofs.lemmas.Cmp.{nat_cmp_total}
use Rattle.std.proofs.lemmas.List.{drop_all}
use Rattle.std.specs.FinMap as fin
use Rattle.std.specs.FinMap.{is_sorted, get-from_sorted, nat_cmp-IsAntisymmetric}
use Rattle.std.specs.FinMap.Entries.{find}
use Rattle.std.proofs.lemmas.Option.{get_or_from_slice_get, slice_get_within}
use Rattle.turn_history.proofs.Entries.{first, less, second}
use Rattle.turn_ports.specs.Ports.{IsFree}
use Rattle.turn_table.proofs.Options.{mapped_then}
use Rattle.turn_table.proofs.Places.{all_taken}
use Rattle.turn_table.proofs.Sorted.{Place, past, find_below, holds, yes}

module _ {V : Type 0} where
  -- whether a port is among those of a list
  abbrev pub among : List (ℕ × V) → ℕ → Bool
  among ports port = is_some (fin.get (fin.from_sorted {R = nat_cmp} ports) port)

  -- how far a walk has come where some ports are left: no free port is below the lowest, and of those from it on, the
  -- ports that are left have all
  pub record Reaches (range : ℕ × ℕ) (even : Bool) (ports left : List (ℕ × V)) (lowest : ℕ) : Type 0 where
    pub from_first : range.0 ≤ lowest
    pub parity : even ≡ true → lowest % 2 ≡ 0
    pub none_below : (other : ℕ) → IsFree range (among ports) even other → lowest ≤ other
    pub rest : (port : ℕ) → lowest ≤ port → find nat_cmp port left ≡ find nat_cmp port ports
    pub sorted : T (is_sorted nat_cmp left)

  pub find-later : (port : ℕ) (x : ℕ × V) (xs : List (ℕ × V)) → x.0 < port → find nat_cmp port (x ∷ xs) ≡ find nat_cmp port xs
  find-later port x xs lt = ap (λ o. cond (is_eq o) (Some x.1) (find nat_cmp port xs)) (sym (nat_cmp_is port x.0 Greater lt))

  find-first : (port : ℕ) (x : ℕ × V) (xs : List (ℕ × V)) → port ≡ x.0 → find nat_cmp port (x ∷ xs) ≡ Some x.1
  find-first port x xs same = ap (λ o. cond (is_eq o) (Some x.1) (find nat_cmp port xs)) (sym (nat_cmp_is port x.0 Equal same))

  find-before : (port : ℕ) (x : ℕ × V) (xs : List (ℕ × V)) → T (is_sorted nat_cmp (x ∷ xs)) → port < x.0 → find nat_cmp port (x ∷ xs) ≡ None
  find-before port x xs s lt =
      let less : nat_cmp port x.0 ≡ Less = sym (nat_cmp_is port x.0 Less lt) in
      ap (λ o. cond (is_eq o) (Some x.1) (find nat_cmp port xs)) less
      ∙ find_below nat_cmp_total nat_cmp-IsAntisymmetric port x.0 xs less (first _ _ s)

  module _ (range : ℕ × ℕ) (even : Bool) (ports : List (ℕ × V)) where
    step_on : (b : Bool) (lowest : ℕ) → (b ≡ true → lowest % 2 ≡ 0) → b ≡ true → (lowest + cond b 2 1) % 2 ≡ 0
    step_on true lowest parity e = let is = parity refl in omega arith
    step_on false lowest parity e = cc

    next_free : (b : Bool) (lowest other : ℕ) → (b ≡ true → lowest % 2 ≡ 0) → (b ≡ true → other % 2 ≡ 0) → lowest < other → lowest + cond b 2 1 ≤ other
    next_free true lowest other p q lt = let is = p refl in let so = q refl in omega arith
    next_free false lowest other p q lt = omega arith

    is_among : is_sorted nat_cmp ports ≡ true → (port : ℕ) (o : Option V) → find nat_cmp port ports ≡ o → among ports port ≡ is_some o
    is_among s port o e = ap is_some (get-from_sorted nat_cmp ports port (holds _ s) ∙ e)

    pub lowest_is : (left : List (ℕ × V)) (lowest : ℕ) → Reaches range even ports left lowest → among ports lowest ≡ false → lowest ≤ range.1 → range.1 < 2 ^ 16 → IsFree range (among ports) even lowest × ((other : ℕ) → IsFree range (among ports) even other → lowest ≤ other)
    lowest_is left lowest here free le few = (
      record {
        is_port = omega arith;
        in_range = (here.from_first, le);
        untaken = free;
        parity = here.parity;
      },
      here.none_below,
    )

  module _ (range : ℕ × ℕ) (even : Bool) (ports walked : List (ℕ × V)) where
    parts : (i : ℕ) (x : ℕ × V) → i < length walked → x ≡ get_or walked i x → drop i walked ≡ x ∷ drop (i + 1) walked
    parts i x lt is = rw add-one (drop-cons walked i x lt ∙ ap (λ y. y ∷ drop (suc i) walked) (sym is))

    -- past a port below the lowest
    pub pass : (i : ℕ) (x : ℕ × V) (lowest new : ℕ) → i < length walked → x ≡ get_or walked i x → Reaches range even ports (drop i walked) lowest → x.0 < lowest → new ≡ lowest → Reaches range even ports (drop (i + 1) walked) new
    pass i x lowest new lt is here below same =
        let left = subst (λ ys. Reaches range even ports ys lowest) (parts i x lt is) here in
        subst (λ n. Reaches range even ports (drop (i + 1) walked) n) (sym same)
        (record {
          from_first = here.from_first;
          parity = here.parity;
          none_below = here.none_below;
          rest = λ port le. sym (find-later port x (drop (i + 1) walked) (omega arith)) ∙ left.rest port le;
          sorted = second _ _ left.sorted;
        })

    -- past the lowest itself
    pub step : is_sorted nat_cmp ports ≡ true → (i : ℕ) (x : ℕ × V) (lowest by new : ℕ) → i < length walked → x ≡ get_or walked i x → Reaches range even ports (drop i walked) lowest → lowest ≡ x.0 → by ≡ cond even 2 1 → new ≡ lowest + by → Reaches range even ports (drop (i + 1) walked) new
    step s i x lowest by new lt is here there by_is same =
        let left = subst (λ ys. Reaches range even ports ys lowest) (parts i x lt is) here in
        let rest = drop (i + 1) walked in
        let has : among ports lowest ≡ true = is_among range even ports s lowest (Some x.1) (sym (left.rest lowest (omega arith)) ∙ find-first lowest x rest there) in
        let up : lowest < lowest + cond even 2 1 = by_step even in
        subst (λ n. Reaches range even ports rest n) (sym (same ∙ ap (λ n. lowest + n) by_is))
        (record {
          from_first = let from = here.from_first in omega arith;
          parity = step_on range even ports even lowest here.parity;
          none_below = λ other free. next_free range even ports even lowest other here.parity free.parity (above other has (here.none_below other free) free.untaken);
          rest = λ port le. sym (find-later port x rest (omega arith)) ∙ left.rest port (omega arith);
          sorted = second _ _ left.sorted;
        })
      where
        by_step : (b : Bool) → lowest < lowest + cond b 2 1
        by_step true = omega arith
        by_step false = omega arith

        above : (other : ℕ) → among ports lowest ≡ true → lowest ≤ other → among ports other ≡ false → lowest < other
        above other has le free = grind (arith, λ (e : lowest ≡ other). ap (among ports) e)

    -- at a port above the lowest, and at the end, the lowest isn't among the ports
    pub gap : is_sorted nat_cmp ports ≡ true → (i : ℕ) (x : ℕ × V) (lowest : ℕ) → i < length walked → x ≡ get_or walked i x → Reaches range even ports (drop i walked) lowest → lowest < x.0 → among ports lowest ≡ false
    gap s i x lowest lt is here below =
        let left = subst (λ ys. Reaches range even ports ys lowest) (parts i x lt is) here in
        is_among range even ports s lowest None (sym (left.rest lowest (omega arith)) ∙ find-before lowest x (drop (i + 1) walked) left.sorted below)

    pub end : is_sorted nat_cmp ports ≡ true → (i lowest : ℕ) → length walked ≤ i → Reaches range even ports (drop i walked) lowest → among ports lowest ≡ false
    end s i lowest le here = is_among range even ports s lowest None (sym (here.rest lowest (omega arith)) ∙ ap (find nat_cmp lowest) (drop_all i walked le))

  -- a port and those that follow it, at the front of some ports
  abbrev pub IsRun : ℕ → List (ℕ × V) → ℕ → Type 0
  IsRun from ports n = (i : ℕ) → i < n → option_map (λ s. s.0) (slice_get ports i) ≡ Some (from + i)

  -- where a walk starts: at the first port, or at the even one after it
  pub starts : (range : ℕ × ℕ) (even : Bool) (ports : List (ℕ × V)) (lowest : ℕ) → is_sorted nat_cmp ports ≡ true → range.0 ≤ lowest → (even ≡ true → (lowest % 2 ≡ 0) × (lowest ≤ range.0 + 1)) → (even ≡ false → lowest ≡ range.0) → Reaches range even ports ports lowest
  starts range even ports lowest s from is_even is_odd =
      record {
        from_first = from;
        parity = λ e. (is_even e).0;
        none_below = λ other free. below even other refl free;
        rest = λ port le. refl;
        sorted = holds _ s;
      }
    where
      below : (b : Bool) (other : ℕ) → even ≡ b → IsFree range (among ports) even other → lowest ≤ other
      below true other e free = let even_one = is_even e in let lowest_even = even_one.0 in let near = even_one.1 in let other_even = free.parity e in let above = free.in_range.0 in omega arith
      below false other e free = let is = is_odd e in let above = free.in_range.0 in omega arith

  rises : (x z : ℕ × V) (zs : List (ℕ × V)) → T (is_sorted nat_cmp (x ∷ z ∷ zs)) → x.0 < z.0
  rises x z zs s = ranked x.0 z.0 Less (sym (less _ (first _ _ (first _ _ s))))

  -- after a run
  pub after_run : (range : ℕ × ℕ) (ports : List (ℕ × V)) (n : ℕ) → is_sorted nat_cmp ports ≡ true → IsRun range.0 ports n → Reaches range false ports (drop n ports) (range.0 + n)
  after_run range ports zero s run = starts range false ports (range.0 + 0) s (omega arith) (λ e. cc) (λ e. omega arith)
  after_run range ports (suc n) s run =
      mapped_then (λ x. x.0) (slice_get ports n) (range.0 + n) (run n (omega arith)) (λ x at port_is.
      let next : n + 1 ≡ suc n = omega arith in
      subst (λ k. Reaches range false ports (drop k ports) (range.0 + suc n)) next
      (step range false ports ports s n x (range.0 + n) 1 (range.0 + suc n) (slice_get_within ports n x at) (sym (get_or_from_slice_get ports n x x at)) (after_run range ports n s (λ i lt. run i (omega arith))) (sym port_is) refl (omega arith)))

  -- where the walk starts after the run that it passes over, which is none where an even port is asked for
  pub begins : (range : ℕ × ℕ) (even : Bool) (ports : List (ℕ × V)) (run lowest : ℕ) → is_sorted nat_cmp ports ≡ true → (even ≡ true → (run ≡ 0) × (lowest ≡ range.0 + range.0 % 2)) → (even ≡ false → IsRun range.0 ports run × (lowest ≡ range.0 + run)) → Reaches range even ports (take (length ports - run) (drop run ports)) lowest
  begins range true ports run lowest s is_even is_odd =
      let none : run ≡ 0 = (is_even refl).0 in
      let low : lowest ≡ range.0 + range.0 % 2 = (is_even refl).1 in
      subst (λ left. Reaches range true ports left lowest) (sym (all_taken ports 0) ∙ ap (λ n. take (length ports - n) (drop n ports)) (sym none))
      (starts range true ports lowest s (omega arith) (λ e. (omega arith, omega arith)) (λ e. cc))
  begins range false ports run lowest s is_even is_odd =
      let low : lowest ≡ range.0 + run = (is_odd refl).1 in
      subst (λ n. Reaches range false ports (take (length ports - run) (drop run ports)) n) (sym low)
      (subst (λ left. Reaches range false ports left (range.0 + run)) (sym (all_taken ports run))
      (after_run range ports run s (is_odd refl).0))

  -- the ports of a list rise by at least one each
  far : (x : ℕ × V) (xs : List (ℕ × V)) → T (is_sorted nat_cmp (x ∷ xs)) → (j : ℕ) (y : ℕ × V) → slice_get xs j ≡ Some y → x.0 + j + 1 ≤ y.0
  far x [] s j y e = absurd cc
  far x (z ∷ zs) s zero y e = let lt : x.0 < z.0 = rises x z zs s in let same : z ≡ y = cc in subst (λ w. x.0 + 0 + 1 ≤ w.0) same (omega arith)
  far x (z ∷ zs) s (suc j) y e = on (rises x z zs s) (far z zs (second _ _ s) j y e)
    where
      on : x.0 < z.0 → z.0 + j + 1 ≤ y.0 → x.0 + suc j + 1 ≤ y.0
      on lt rest = omega arith

  -- a run reaches as far as the port at its last place says
  pub run_to : (from : ℕ) (ports : List (ℕ × V)) (m : ℕ) (v : ℕ × V) → T (is_sorted nat_cmp ports) → ((x : ℕ × V) → slice_get ports 0 ≡ Some x → from ≤ x.0) → slice_get ports m ≡ Some v → v.0 ≡ from + m → IsRun from ports (m + 1)
  run_to from [] m v s head at is i lt = absurd cc
  run_to from (x ∷ xs) zero v s head at is i lt =
      let zero_th : i ≡ 0 = omega arith in
      let same : x ≡ v = cc in
      subst (λ k. option_map (λ w. w.0) (slice_get (x ∷ xs) k) ≡ Some (from + k)) (sym zero_th) (ap Some (ap (λ w. w.0) same ∙ is))
  run_to from (x ∷ xs) (suc m) v s head at is zero lt =
      let far_off : x.0 + m + 1 ≤ v.0 = far x xs s m v at in
      let near : from ≤ x.0 = head x refl in
      let same : x.0 ≡ from + 0 = omega arith in
      ap Some same
  run_to from (x ∷ xs) (suc m) v s head at is (suc i) lt =
      let same : from + 1 + i ≡ from + suc i = omega arith in
      run_to (from + 1) xs m v (second _ _ s) (λ y e. let up : x.0 + 0 + 1 ≤ y.0 = far x xs s 0 y e in let near : from ≤ x.0 = head x refl in omega arith) at (omega arith) i (omega arith) ∙ ap Some same

  -- ---- The ports from one on

  sorted_drop : (i : ℕ) (xs : List (ℕ × V)) → T (is_sorted nat_cmp xs) → T (is_sorted nat_cmp (drop i xs))
  sorted_drop zero xs s = s
  sorted_drop (suc i) [] s = s
  sorted_drop (suc i) (x ∷ xs) s = sorted_drop i xs (second _ _ s)

  above_place : (f port : ℕ) (xs : List (ℕ × V)) (b : Bool) (i : ℕ) → Place nat_cmp_total nat_cmp-IsAntisymmetric f xs b i → f ≤ port → find nat_cmp port (drop i xs) ≡ find nat_cmp port xs
  above_place f port xs b zero at le = refl
  above_place f port [] b (suc i) h le = elim h [ ]
  above_place f port (x ∷ xs) b (suc i) (past c more) le =
      let below : x.0 < f = ranked f x.0 Greater (sym c) in above_place f port xs b i more le ∙ sym (find-later port x xs (omega arith))

  -- ports that rise, and those from a port on, as maps
  pub record IsFrom (f : ℕ) (ports left : List (ℕ × V)) : Type 0 where
    pub sorted : is_sorted nat_cmp left ≡ true
    pub same : (port : ℕ) → f ≤ port → fin.get (fin.from_sorted {R = nat_cmp} left) port ≡ fin.get (fin.from_sorted {R = nat_cmp} ports) port

  pub from_place : (f : ℕ) (xs : List (ℕ × V)) (b : Bool) (i : ℕ) → is_sorted nat_cmp xs ≡ true → Place nat_cmp_total nat_cmp-IsAntisymmetric f xs b i → IsFrom f xs (take (length xs - i) (drop i xs))
  from_place f xs b i s at =
      let left = sorted_drop i xs (holds _ s) in
      subst (IsFrom f xs) (sym (all_taken xs i)) (record {
        sorted = yes _ left;
        same = λ port le. get-from_sorted nat_cmp (drop i xs) port left ∙ above_place f port xs b i at le ∙ sym (get-from_sorted nat_cmp xs port (holds _ s));
      })
