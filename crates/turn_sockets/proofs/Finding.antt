-- What is wanted in a range and in its parts; an entry that is inserted and removed.
use Rattle.std.proofs.Common.{IsSome, ◌≡◌, ◌≤◌, ◌<◌, ◌+◌, ◌⊎◌, ℕ, Bool, true, refl, cond, List, [], ◌∷◌, Option, Some, None, ap, subst, sym, ◌∙◌, ⊎_elim, arith, inl, inr, Ordering, Less, Equal, Greater}
use Rattle.std.specs.Ordering.{nat_cmp, match_ordering, is_eq}
use Rattle.std.proofs.lemmas.Bool.{cases_lt}
use Rattle.std.proofs.lemmas.Bool.Decides.{nat_tests}
use Rattle.std.specs.Map.{lookup, remove_entry}
use Rattle.std.specs.BTreeMap.{BTreeMap, IsUnchanged, get, insert_entry, is_at}
use Rattle.turn_ports.specs.Ports.{IsFree}
use Rattle.turn_types.specs.declared.address.Endpoint.{Endpoint}
use Rattle.turn_sockets.specs.declared.ports.Bound.{Bound}
use Rattle.turn_sockets.specs.declared.ports.Bound.TheVariants.{Unavailable}
use Rattle.turn_sockets.specs.declared.ports.Search.{Search}
use Rattle.turn_sockets.specs.declared.ports.Search.TheVariants.{Found, Nothing, Failed, Exhausted}
use Rattle.turn_sockets.specs.declared.ports.Wanted.{Wanted}
use Rattle.turn_sockets.specs.declared.ports.Wanted.TheVariants.{Port, Pair}
use Rattle.turn_sockets.specs.Ports.{AreLeftOut, Asked, Binds, Inserts, IsExhausted, IsFirstFrom, IsLeftOut, IsWanted, Keeps, LeavesOut, LeavesOutEach, LeavesOutFrom, NoneIsWanted, Searches, Tries, WasRefused, found_port}

free_in : (low high : ℕ) (range : ℕ × ℕ) (taken : ℕ → Bool) (even : Bool) (port : ℕ) → low ≤ port → port ≤ high
    → IsFree range taken even port → IsFree (low, high) taken even port
free_in low high range taken even port above below free = record {
  is_port = free.is_port;
  in_range = (above, below);
  untaken = free.untaken;
  parity = free.parity;
}

-- what is wanted in a part of a range is wanted in the range
pub widened : (range wider : ℕ × ℕ) (taken : ℕ → Bool) (wanted : Wanted) (port : ℕ) → wider.0 ≤ range.0 → range.1 ≤ wider.1
    → IsWanted range taken wanted port → IsWanted wider taken wanted port
widened range wider taken (Port even) port low high free =
    free_in wider.0 wider.1 range taken even port (omega (arith, free.in_range.0)) (omega (arith, free.in_range.1)) free
widened range wider taken Pair port low high free = record {
  first = free_in wider.0 wider.1 range taken _ port (omega (arith, free.first.in_range.0)) (omega (arith, free.first.in_range.1)) free.first;
  second = free_in wider.0 wider.1 range taken _ (port + 1) (omega (arith, free.second.in_range.0)) (omega (arith, free.second.in_range.1)) free.second;
}

-- what is wanted in a range, from one of its ports on, is wanted in that part
above_in : (range : ℕ × ℕ) (from : ℕ) (taken : ℕ → Bool) (wanted : Wanted) (port : ℕ) → from ≤ port → IsWanted range taken wanted port → IsWanted (from, range.1) taken wanted port
above_in range from taken (Port even) port above free = free_in from range.1 range taken even port above free.in_range.1 free
above_in range from taken Pair port above free = record {
  first = free_in from range.1 range taken true port above free.first.in_range.1 free.first;
  second = free_in from range.1 range taken _ (port + 1) (omega arith) free.second.in_range.1 free.second;
}

-- and below that port in the other part, which ends with it
below_in : (range : ℕ × ℕ) (from : ℕ) (taken : ℕ → Bool) (wanted : Wanted) (port : ℕ) → port < from → IsWanted range taken wanted port → IsWanted (range.0, from) taken wanted port
below_in range from taken (Port even) port below free = free_in range.0 from range taken even port free.in_range.0 (omega arith) free
below_in range from taken Pair port below free = record {
  first = free_in range.0 from range taken true port free.first.in_range.0 (omega arith) free.first;
  second = free_in range.0 from range taken _ (port + 1) free.second.in_range.0 (omega arith) free.second;
}

-- what is wanted in a range is wanted from one of its ports on, or up to it
parted : (range : ℕ × ℕ) (from : ℕ) (taken : ℕ → Bool) (wanted : Wanted) (port : ℕ) → IsWanted range taken wanted port
    → IsWanted (from, range.1) taken wanted port ⊎ IsWanted (range.0, from) taken wanted port
parted range from taken wanted port free =
    ⊎_elim (λ below. inr (below_in range from taken wanted port below free)) (λ above. inl (above_in range from taken wanted port above free)) (cases_lt port from)

-- what is wanted in a range is of it
pub within : (range : ℕ × ℕ) (taken : ℕ → Bool) (wanted : Wanted) (port : ℕ) → IsWanted range taken wanted port → (range.0 ≤ port) × (port ≤ range.1)
within range taken (Port even) port free = free.in_range
within range taken Pair port free = free.first.in_range

-- where nothing is wanted in both parts nothing is in the range
pub none_in_both : (range : ℕ × ℕ) (from : ℕ) (taken : ℕ → Bool) (wanted : Wanted) → NoneIsWanted (from, range.1) taken wanted
    → NoneIsWanted (range.0, from) taken wanted → NoneIsWanted range taken wanted
none_in_both range from taken wanted upper lower port free =
    elim (parted range from taken wanted port free) [ inl above ↦ upper port above | inr below ↦ lower port below ]

-- what both parts of a range came to, where nothing is wanted in the lower one
pub searched : (range : ℕ × ℕ) (from : ℕ) (taken : ℕ → Bool) (wanted : Wanted) (upper lower : Search) → range.0 ≤ from
    → Searches (from, range.1) taken wanted upper → Searches (range.0, from) taken wanted lower → lower ≡ Nothing
    → Searches range taken wanted upper
searched range from taken wanted (Found port) lower low above below none =
    widened (from, range.1) range taken wanted port low (omega arith) above
searched range from taken wanted Nothing lower low above below none =
    none_in_both range from taken wanted above (subst (Searches (range.0, from) taken wanted) none below)
searched range from taken wanted Failed lower low above below none = tt
searched range from taken wanted Exhausted lower low above below none = tt

-- the sockets of two maps with the same entries are left out for the same reasons
same_left : {X : Type 0} (refuses : ℕ → Type 0) (old new : BTreeMap ℕ X) (wanted : Wanted) (port : ℕ) → IsUnchanged old new
    → IsLeftOut refuses new wanted port → IsLeftOut refuses old wanted port
same_left {X} refuses old new (Port even) port same left =
    subst (λ (es : List (ℕ × X)). IsSome (lookup (is_at (nat_cmp port)) es) ⊎ refuses port) same left
same_left {X} refuses old new Pair port same left =
    subst (λ (es : List (ℕ × X)). (IsSome (lookup (is_at (nat_cmp port)) es) ⊎ refuses port) ⊎ (IsSome (lookup (is_at (nat_cmp (port + 1))) es) ⊎ refuses (port + 1))) same left

left_in_both : {X : Type 0} (refuses : ℕ → Type 0) (sockets : BTreeMap ℕ X) (range : ℕ × ℕ) (from : ℕ) (taken : ℕ → Bool) (wanted : Wanted)
    → AreLeftOut refuses sockets (from, range.1) taken wanted → AreLeftOut refuses sockets (range.0, from) taken wanted
    → AreLeftOut refuses sockets range taken wanted
left_in_both refuses sockets range from taken wanted upper lower port free =
    elim (parted range from taken wanted port free) [ inl above ↦ upper port above | inr below ↦ lower port below ]

-- what was refused stays refused
pub left_keeps : {X : Type 0} (old new : Asked) (sockets : BTreeMap ℕ X) (wanted : Wanted) (port : ℕ) → Keeps old new
    → IsLeftOut (WasRefused old) sockets wanted port → IsLeftOut (WasRefused new) sockets wanted port
left_keeps old new sockets (Port even) port keeps (inl has) = inl has
left_keeps old new sockets (Port even) port keeps (inr refused) = inr (keeps _ refused)
left_keeps old new sockets Pair port keeps (inl (inl has)) = inl (inl has)
left_keeps old new sockets Pair port keeps (inl (inr refused)) = inl (inr (keeps _ refused))
left_keeps old new sockets Pair port keeps (inr (inl has)) = inr (inl has)
left_keeps old new sockets Pair port keeps (inr (inr refused)) = inr (inr (keeps _ refused))

-- what is wanted at the last port that a search came to was left out
pub left_at : {X : Type 0} (asked : Asked) (old mid : BTreeMap ℕ X) (range : ℕ × ℕ) (taken : ℕ → Bool) (wanted : Wanted) (at port : ℕ) (tried : Option Bound)
    → tried ≡ None ⊎ tried ≡ Some Unavailable → IsUnchanged old mid → Tries range taken wanted at tried
    → LeavesOut (WasRefused asked) (IsExhausted asked) mid wanted at tried → at ≤ port → range.1 ≤ at → IsWanted range taken wanted port
    → IsLeftOut (WasRefused asked) old wanted port
left_at {X} asked old mid range taken wanted at port tried which same tries left low high free =
    let there = within range taken wanted port free in
    let is : at ≡ port = omega arith in
    let at_it : IsWanted range taken wanted at = subst (IsWanted range taken wanted) (sym is) free in
    ⊎_elim
    (λ none. let not : IsWanted range taken wanted at → ⊥ = subst (Tries range taken wanted at) none tries in absurd (not at_it))
    (λ refused.
    let out : IsLeftOut (WasRefused asked) mid wanted at = subst (LeavesOut (WasRefused asked) (IsExhausted asked) mid wanted at) refused left in
    same_left (WasRefused asked) old mid wanted port same (subst (IsLeftOut (WasRefused asked) mid wanted) is out))
    which

-- a search of the upper part that found nothing, where nothing is wanted in the lower one
pub left_in_upper : {X : Type 0} (asked more : Asked) (sockets : BTreeMap ℕ X) (range : ℕ × ℕ) (from : ℕ) (taken : ℕ → Bool) (wanted : Wanted) (upper lower : Search)
    → ((port : ℕ) → upper ≡ Found port → ⊥) → (upper ≡ Exhausted → ⊥) → Keeps asked more
    → LeavesOutEach (WasRefused asked) (IsExhausted asked) sockets (from, range.1) taken wanted upper → Searches (range.0, from) taken wanted lower → lower ≡ Nothing
    → LeavesOutFrom (WasRefused more) (IsExhausted more) sockets range from taken wanted upper
left_in_upper asked more sockets range from taken wanted (Found port) lower other one keeps left below none = absurd (other port refl)
left_in_upper asked more sockets range from taken wanted Nothing lower other one keeps left below none = tt
left_in_upper asked more sockets range from taken wanted Failed lower other one keeps left below none =
    left_in_both (WasRefused more) sockets range from taken wanted (λ port free. left_keeps asked more sockets wanted port keeps (left port free))
    (λ port free. absurd (subst (Searches (range.0, from) taken wanted) none below port free))
left_in_upper asked more sockets range from taken wanted Exhausted lower other one keeps left below none = absurd (one refl)

-- what a search of the upper part passed over that found nothing
passed_above : {X : Type 0} (asked more : Asked) (sockets : BTreeMap ℕ X) (range : ℕ × ℕ) (from : ℕ) (taken : ℕ → Bool) (wanted : Wanted) (upper : Search)
    → ((port : ℕ) → upper ≡ Found port → ⊥) → (upper ≡ Exhausted → ⊥) → Keeps asked more
    → Searches (from, range.1) taken wanted upper → LeavesOutEach (WasRefused asked) (IsExhausted asked) sockets (from, range.1) taken wanted upper
    → AreLeftOut (WasRefused more) sockets (from, range.1) taken wanted
passed_above asked more sockets range from taken wanted (Found port) other one keeps above left = absurd (other port refl)
passed_above asked more sockets range from taken wanted Nothing other one keeps above left = λ port free. absurd (above port free)
passed_above asked more sockets range from taken wanted Failed other one keeps above left = λ port free. left_keeps asked more sockets wanted port keeps (left port free)
passed_above asked more sockets range from taken wanted Exhausted other one keeps above left = absurd (one refl)

-- a search that found nothing leaves the sockets as they are
unchanged_by : (ip : ℕ) (old new : BTreeMap ℕ Endpoint) (wanted : Wanted) (upper : Search) → ((port : ℕ) → upper ≡ Found port → ⊥) → Binds ip wanted old new (found_port upper) → IsUnchanged old new
unchanged_by ip old new wanted (Found port) other same = absurd (other port refl)
unchanged_by ip old new wanted Nothing other same = same
unchanged_by ip old new wanted Failed other same = same
unchanged_by ip old new wanted Exhausted other same = same

-- what a search of the lower part came to, where nothing was found in the upper one
pub left_in_lower : (ip : ℕ) (asked more : Asked) (old new : BTreeMap ℕ Endpoint) (range : ℕ × ℕ) (from : ℕ) (taken : ℕ → Bool) (wanted : Wanted) (upper lower : Search)
    → ((port : ℕ) → upper ≡ Found port → ⊥) → (upper ≡ Exhausted → ⊥) → Keeps asked more → Binds ip wanted old new (found_port upper)
    → Searches (from, range.1) taken wanted upper → LeavesOutEach (WasRefused asked) (IsExhausted asked) old (from, range.1) taken wanted upper
    → LeavesOutEach (WasRefused more) (IsExhausted more) new (range.0, from) taken wanted lower
    → LeavesOutFrom (WasRefused more) (IsExhausted more) old range from taken wanted lower
left_in_lower ip asked more old new range from taken wanted upper lower other one keeps binds above left below = by lower refl
  where
    upper_left : AreLeftOut (WasRefused more) old (from, range.1) taken wanted
    upper_left = passed_above asked more old range from taken wanted upper other one keeps above left

    same : IsUnchanged old new
    same = unchanged_by ip old new wanted upper other binds

    first : (port : ℕ) → lower ≡ Found port → IsFirstFrom (WasRefused more) old range from taken wanted port
    first port is p (inl early) free = upper_left p (above_in range from taken wanted p early.0 free)
    first port is p (inr (before, inl up)) free = upper_left p (above_in range from taken wanted p up free)
    first port is p (inr (before, inr down)) free =
        same_left (WasRefused more) old new wanted p same
        (subst (LeavesOutEach (WasRefused more) (IsExhausted more) new (range.0, from) taken wanted) is below p before (below_in range from taken wanted p (omega arith) free))

    by : (l : Search) → lower ≡ l → LeavesOutFrom (WasRefused more) (IsExhausted more) old range from taken wanted l
    by (Found port) is = first port is
    by Nothing is = tt
    by Failed is =
        left_in_both (WasRefused more) old range from taken wanted upper_left
        (λ port free. same_left (WasRefused more) old new wanted port same (subst (LeavesOutEach (WasRefused more) (IsExhausted more) new (range.0, from) taken wanted) is below port free))
    by Exhausted is = subst (LeavesOutEach (WasRefused more) (IsExhausted more) new (range.0, from) taken wanted) is below

at_itself : (k : ℕ) → is_eq (nat_cmp k k) ≡ true
at_itself k = grind (arith, nat_tests)

-- an entry of a new key, inserted and removed
inserted_and_removed : {X : Type 0} (k : ℕ) (v : X) (es : List (ℕ × X)) → lookup (is_at (nat_cmp k)) es ≡ None
    → remove_entry (is_at (nat_cmp k)) (insert_entry nat_cmp es k v) ≡ es
inserted_and_removed {X} k v [] new = ap (λ b. cond b [] ((k, v) ∷ [])) (at_itself k)
inserted_and_removed {X} k v (e ∷ es) new = by_order (nat_cmp k e.0) refl new (inserted_and_removed k v es)
  where
    by_order : (o : Ordering) → nat_cmp k e.0 ≡ o → cond (is_eq o) (Some e.1) (lookup (is_at (nat_cmp k)) es) ≡ None
        → (lookup (is_at (nat_cmp k)) es ≡ None → remove_entry (is_at (nat_cmp k)) (insert_entry nat_cmp es k v) ≡ es)
        → remove_entry (is_at (nat_cmp k)) (match_ordering o ((k, v) ∷ e ∷ es) ((e.0, v) ∷ es) (e ∷ insert_entry nat_cmp es k v)) ≡ e ∷ es
    by_order Less is none rest = ap (λ b. cond b (e ∷ es) ((k, v) ∷ remove_entry (is_at (nat_cmp k)) (e ∷ es))) (at_itself k)
    by_order Equal is none rest = absurd cc
    by_order Greater is none rest =
        ap (λ o. cond (is_eq o) (insert_entry nat_cmp es k v) (e ∷ remove_entry (is_at (nat_cmp k)) (insert_entry nat_cmp es k v))) is
        ∙ ap (λ r. e ∷ r) (rest none)

-- a map without the entry that was inserted
pub restored : {X : Type 0} (port : ℕ) (old mid new : BTreeMap ℕ X) → Inserts old mid port → get nat_cmp old port ≡ None
    → new.entries ≡ remove_entry (is_at (nat_cmp port)) mid.entries → IsUnchanged old new
restored port old mid new inserted none removed =
    removed ∙ ap (remove_entry (is_at (nat_cmp port))) inserted.1 ∙ inserted_and_removed port inserted.0 old.entries none
