use Rattle.std.proofs.Common.{◌≡◌, ℕ, ◌+◌, ◌-◌, ◌<◌, Bool, true, false, cond, ◌||◌, not, is_some, arith, List, ◌∷◌, drop, length, refl, sym, ap, ◌∙◌, Option, Some, None, get_or, drop-cons, add-one, nat_eq, nat_cmp}
use Rattle.std.proofs.lemmas.Bool.{not-false, not-true}
use Rattle.std.specs.List.{list_any}
use Rattle.std.proofs.lemmas.Cmp.{nat_cmp_total}
use Rattle.std.specs.FinMap as fin
use Rattle.std.specs.FinMap.{FinMap, len-insert}
use Rattle.turn_history.proofs.Steps.{get-install}
use Rattle.turn_history.specs.Prelude.{install}
use Rattle.turn_table.proofs.Places.{all_taken}
use Rattle.turn_table.proofs.fits.new_addresses.Goals as goal

counted : (any : Bool) (o : Option ℕ) (n : ℕ) → cond (is_some (cond any (Some 0) o)) n (n + 1) ≡ cond (is_some o || any) n (n + 1)
counted true None n = refl
counted true (Some x) n = refl
counted false None n = refl
counted false (Some x) n = refl

module _ (xs : List ℕ) (i : ℕ) (m : FinMap nat_cmp ℕ) (n : ℕ) (lt : i < length xs) where
  step : (b : Bool) → (is_some (fin.get m (get_or xs i 0)) || list_any (nat_eq (get_or xs i 0)) (drop (i + 1) xs)) ≡ b → fin.len (install 0 (drop i xs) m) ≡ cond b (fin.len (install 0 (drop (i + 1) xs) m)) (fin.len (install 0 (drop (i + 1) xs) m) + 1)
  step b e =
      let rest = install 0 (drop (i + 1) xs) m in
      let a = get_or xs i 0 in
      let parts : drop i xs ≡ a ∷ drop (i + 1) xs = rw add-one (drop-cons xs i 0 lt) in
      ap (λ ys. fin.len (install 0 ys m)) parts
      ∙ len-insert nat_cmp_total rest a 0
      ∙ ap (λ o. cond (is_some o) (fin.len rest) (fin.len rest + 1)) (get-install 0 (drop (i + 1) xs) m a)
      ∙ counted (list_any (nat_eq a) (drop (i + 1) xs)) (fin.get m a) (fin.len rest)
      ∙ ap (λ c. cond c (fin.len rest) (fin.len rest + 1)) e

  -- a new address is one permission more
  one_more : not (is_some (fin.get m (get_or xs i 0)) || list_any (nat_eq (get_or xs i 0)) (drop (i + 1) xs)) ≡ true → n + fin.len m ≡ fin.len (install 0 (drop (i + 1) xs) m) → (n + 1) + fin.len m ≡ fin.len (install 0 (drop i xs) m)
  one_more fresh so = let e = step false (not-true _ fresh) in omega (arith, e, so)

  -- another is none
  none_more : not (is_some (fin.get m (get_or xs i 0)) || list_any (nat_eq (get_or xs i 0)) (drop (i + 1) xs)) ≡ false → n + fin.len m ≡ fin.len (install 0 (drop (i + 1) xs) m) → n + fin.len m ≡ fin.len (install 0 (drop i xs) m)
  none_more old so = so ∙ sym (step true (not-false _ old))

pub loop-left-preserved-then-is_new : goal.loop-left-preserved-then-is_new
loop-left-preserved-then-is_new g c =
    let left = c.loop-left.left in
    let back : left ≡ (left - 1) + 1 = omega (arith, c.loop-left-test.true) in
    let within : left - 1 < length c.args.addresses.now = omega (arith, c.loop-left-test.true, c.loop-left.invariant.0) in (
      omega (arith, c.loop-left.invariant.0),
      omega (arith, c.loop-left.invariant.1, c.loop-left-test.true),
      one_more c.args.addresses.now (left - 1) c.args.entry.now.entry.permissions c.loop-left.new within (ap (λ ys. not (is_some (fin.get c.args.entry.now.entry.permissions (get_or c.args.addresses.now (left - 1) 0)) || list_any (nat_eq (get_or c.args.addresses.now (left - 1) 0)) ys)) (sym (all_taken c.args.addresses.now ((left - 1) + 1))) ∙ sym c.is_new.ensures ∙ c.if-is_new.true)
          (c.loop-left.invariant.2 ∙ ap (λ k. fin.len (install 0 (drop k c.args.addresses.now) c.args.entry.now.entry.permissions)) back),
    )

pub loop-left-preserved : goal.loop-left-preserved
loop-left-preserved g c =
    let left = c.loop-left.left in
    let back : left ≡ (left - 1) + 1 = omega (arith, c.loop-left-test.true) in
    let within : left - 1 < length c.args.addresses.now = omega (arith, c.loop-left-test.true, c.loop-left.invariant.0) in (
      omega (arith, c.loop-left.invariant.0),
      omega (arith, c.loop-left.invariant.1),
      none_more c.args.addresses.now (left - 1) c.args.entry.now.entry.permissions c.loop-left.new within (ap (λ ys. not (is_some (fin.get c.args.entry.now.entry.permissions (get_or c.args.addresses.now (left - 1) 0)) || list_any (nat_eq (get_or c.args.addresses.now (left - 1) 0)) ys)) (sym (all_taken c.args.addresses.now ((left - 1) + 1))) ∙ sym c.is_new.ensures ∙ c.if-is_new.false)
          (c.loop-left.invariant.2 ∙ ap (λ k. fin.len (install 0 (drop k c.args.addresses.now) c.args.entry.now.entry.permissions)) back),
    )
