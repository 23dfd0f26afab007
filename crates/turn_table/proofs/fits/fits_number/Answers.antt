use Rattle.std.proofs.Common.{◌≡◌, ℕ, ◌+◌, ◌≤◌, true, false, cond, is_some, arith, ap, sym, ◌∙◌, IsTrue, leb, ltb, nat_cmp}
use Rattle.std.proofs.lemmas.Bool.Decides.{nat_tests}
use Rattle.std.proofs.lemmas.Cmp.{nat_cmp_total}
use Rattle.std.specs.FinMap as fin
use Rattle.std.specs.FinMap.{FinMap, len-insert}
use Rattle.turn_history.specs.declared.channel.Channel.{Channel}
use Rattle.turn_table.proofs.fits.fits_number.Goals as goal

-- a channel more, where the number has none
number_there : (m : FinMap nat_cmp Channel) (n : ℕ) (c : Channel) → is_some (fin.get m n) ≡ true → fin.len (fin.insert m n c) ≡ fin.len m
number_there m n c some = len-insert nat_cmp_total m n c ∙ ap (λ b. cond b (fin.len m) (fin.len m + 1)) some

number_new : (m : FinMap nat_cmp Channel) (n : ℕ) (c : Channel) → is_some (fin.get m n) ≡ false → fin.len (fin.insert m n c) ≡ fin.len m + 1
number_new m n c none = len-insert nat_cmp_total m n c ∙ ap (λ b. cond b (fin.len m) (fin.len m + 1)) none

le_limit : (k l limit r : ℕ) → l ≡ k → r ≡ limit → (IsTrue (leb k r) → l ≤ limit) × (l ≤ limit → IsTrue (leb k r))
le_limit k l limit r a b = (λ h. grind (arith, nat_tests), λ h. grind (arith, nat_tests))

lt_limit : (k l limit r : ℕ) → l ≡ k + 1 → r ≡ limit → (IsTrue (ltb k r) → l ≤ limit) × (l ≤ limit → IsTrue (ltb k r))
lt_limit k l limit r a b = (λ h. grind (arith, nat_tests), λ h. grind (arith, nat_tests))

pub returns-then-has_channel : goal.returns-then-has_channel
returns-then-has_channel g c x =
    le_limit c.len-len.result _ c.args.limit c.from.result
    (number_there c.args.entry.now.entry.channels c.args.number x (sym c.has_channel.ensures ∙ c.if-has_channel.true)
    ∙ sym (c.len-len.ensures ∙ ap (λ h. fin.len h.entry.channels) c.entry.view_is))
    c.from.ensures

pub returns-else-has_channel : goal.returns-else-has_channel
returns-else-has_channel g c x =
    lt_limit c.len-len.result _ c.args.limit c.from-else-has_channel.result
    (number_new c.args.entry.now.entry.channels c.args.number x (sym c.has_channel.ensures ∙ c.if-has_channel.false)
    ∙ ap (λ k. k + 1) (sym (c.len-len.ensures ∙ ap (λ h. fin.len h.entry.channels) c.entry.view_is)))
    c.from-else-has_channel.ensures
