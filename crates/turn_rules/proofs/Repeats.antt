-- A repeated Allocate gets the same bytes.
use Rattle.std.proofs.Common.{◌≡◌, inl, inr, arith, subst, ℕ, Bool, true, false, ◌&&◌, List, refl, sym, ap, ◌∙◌, Option, Some, None, ◌==◌, if◌then◌else◌, is_some, option_map, IfSome, bytes_eq}
use Rattle.std.specs.FinMap as fin
use Rattle.std.proofs.Math.Bool.{and-false}
use Rattle.std.proofs.lemmas.Bool.{and_from, and_parts, cases_Bool}
use Rattle.std.proofs.lemmas.Bool.Decides.{nat_tests}
use Rattle.std.proofs.lemmas.Slice.Eq.{bytes_eq-Decides}
use Rattle.turn_types.specs.Prelude.{Config, allocate, binding}
use Rattle.turn_history.specs.Prelude.{FiveTuple, AllocationMismatch, Token, Allocates, Allocation, PlainAct, allocation_of, Contents, Entry}
use Rattle.turn_codec.specs.Prelude.{Content, Datagram, canonical, has_unknown}
use Rattle.turn_cred.specs.Prelude.{Verdict, Passed}
use Rattle.turn_cred.specs.declared.key.Key.{Key}
use Rattle.turn_rules.specs.declared.outcome.Outcome.{Outcome}
use Rattle.turn_rules.specs.declared.outcome.Outcome.TheVariants.{Drop, Refuse, RefuseUnknown, RepeatedAllocate, Allocate}
use Rattle.turn_rules.specs.Prelude.{allocate_outcome, before_port, is_repeat, named_port, own_outcome, Decided, decision, is_allocate, is_dropped, is_expired, is_protected, is_request, key_of, outcome_of, user_of, act_by, response_of}
use Rattle.turn_rules.proofs.Reached.{IsNew, IsOfUser, IsReached, of_decided}

-- ---- What an Allocate gets where the five-tuple has an allocation

-- by the allocation alone
abbrev in_use : Allocation → List ℕ → Content → Outcome
in_use a user m =
    if has_unknown m then RefuseUnknown
    else if bytes_eq a.user user && bytes_eq a.tx.0 m.tx then RepeatedAllocate a.port a.granted a.token
    else Refuse AllocationMismatch

own_in_use : (pairs valid : Bool) (e : Entry) (user : List ℕ) (m : Content) → own_outcome pairs valid (Some e) user m ≡ Some (in_use (allocation_of e) user m)
unfolding own_outcome
own_in_use pairs valid e user m = by_unknown (has_unknown m) (bytes_eq e.user user && bytes_eq e.tx.0 m.tx)
  where
    by_unknown : (b c : Bool) → (if b then Some RefuseUnknown else if c then Some (RepeatedAllocate e.port e.granted e.token) else Some (Refuse AllocationMismatch))
        ≡ Some (if b then RefuseUnknown else if c then RepeatedAllocate e.port e.granted e.token else Refuse AllocationMismatch)
    by_unknown true c = refl
    by_unknown false true = refl
    by_unknown false false = refl

allocate_in_use : (pairs : Bool) (s : Config) (c : Contents) (f : FiveTuple) (t : ℕ) (user : List ℕ) (m : Content) (port : Option ℕ) (e : Entry) → fin.get c.entries f ≡ Some e
    → allocate_outcome pairs s c f t user m port ≡ in_use (allocation_of e) user m
unfolding before_port
allocate_in_use pairs s c f t user m port e at = rw (at, own_in_use pairs (is_some (named_port c m)) e user m) refl

-- ---- Datagrams

-- where the five-tuple has an allocation, whether the key has expired doesn't count
pub in_time : (c : Contents) (f : FiveTuple) (t : ℕ) (m : Content) (key : Key) (e : Entry) → fin.get c.entries f ≡ Some e → is_expired c f t m key ≡ false
in_time c f t m key e at = simp (at, and-false)

other_method : (n : ℕ) → (n == allocate) ≡ true → (n == binding) ≡ false
other_method n is = grind (arith, nat_tests)

protects : (n : ℕ) → (n == allocate) ≡ true → is_protected n ≡ true
protects n is = rw is refl

-- the outcome of an Allocate whose credentials hold, with a key that has not expired, is that of the Allocate
pub outcome_is : (pairs : Bool) (s : Config) (c : Contents) (f : FiveTuple) (t : ℕ) (d : Datagram) (user : List ℕ) (key : Key) (port : Option ℕ) → is_expired c f t d.content key ≡ false → is_dropped d ≡ false → (d.content.method == allocate) ≡ true
    → outcome_of pairs s c f t d (Some (Passed user key)) port ≡ allocate_outcome pairs s c f t user d.content port
unfolding outcome_of
outcome_is pairs s c f t d user key port early taken method = rw (taken, other_method d.content.method method, protects d.content.method method, early, method) refl

-- and where an allocation is made, it is the success
success_is : {pairs : Bool} {s : Config} {c : Contents} {f : FiveTuple} {t : ℕ} {user : List ℕ} {m : Content} {port : Option ℕ} {p seconds : ℕ} {token : Option Token} → IsNew pairs s c f t user m port p seconds token
    → allocate_outcome pairs s c f t user m port ≡ Allocate p seconds token
success_is new = rw (new.undecided, new.port_is, new.granted_is, new.token_is) refl

-- ---- Decisions

abbrev decided_by : Config → FiveTuple → ℕ → Datagram → Option Verdict → Outcome → Decided
decided_by s f t d v o = record { reply = option_map canonical (response_of s f.client t d.content (key_of d.content v) o); act = act_by (user_of v) d.content o }

decision_is : (pairs : Bool) (s : Config) (c : Contents) (f : FiveTuple) (t : ℕ) (d : Datagram) (v : Option Verdict) (port : Option ℕ) → decision pairs s c f t d v port ≡ decided_by s f t d v (outcome_of pairs s c f t d v port)
unfolding decision
decision_is pairs s c f t d v port = refl

pub repeat_same : (pairs later : Bool) (s : Config) (c again : Contents) (f : FiveTuple) (d : Datagram) (v : Option Verdict) (t u : ℕ) (port other : Option ℕ) (e : Entry)
    → (decision pairs s c f t d v port).act ≡ Some (Allocates e.user e.port e.granted e.tx e.token) → fin.get again.entries f ≡ Some e
    → decision later s again f u d v other ≡ record { reply = (decision pairs s c f t d v port).reply; act = None }
repeat_same pairs later s c again f d v t u port other e is at =
    let of_user = made.0 in
    let new = made.1.2 in
    let first : outcome_of pairs s c f t d v port ≡ Allocate e.port e.granted e.token =
    ap (λ w. outcome_of pairs s c f t d w port) of_user.verdict ∙ outcome_is pairs s c f t d of_user.user of_user.key port of_user.in_time of_user.taken new.method ∙ success_is new in
    let repeats : is_repeat of_user.user d.content e ≡ true =
    and_from _ _ ((bytes_eq-Decides e.user of_user.user).1 made.1.0) ((bytes_eq-Decides e.tx.0 d.content.tx).1 made.1.1) in
    let second : outcome_of later s again f u d v other ≡ RepeatedAllocate e.port e.granted e.token =
    ap (λ w. outcome_of later s again f u d w other) of_user.verdict
    ∙ outcome_is later s again f u d of_user.user of_user.key other (in_time again f u d.content of_user.key e at) of_user.taken new.method
    ∙ allocate_in_use later s again f u of_user.user d.content other e at ∙ again_is of_user.user new.known repeats in
    let before : decided_by s f t d v (Allocate e.port e.granted e.token) ≡ decision pairs s c f t d v port = sym (decision_is pairs s c f t d v port ∙ ap (decided_by s f t d v) first) in
    decision_is later s again f u d v other ∙ ap (decided_by s f u d v) second ∙ ap (λ (x : Decided). record { reply = x.reply; act = None }) before
  where
    Made : PlainAct → Type 0
    Made act = (of_user : IsOfUser pairs s c f t d v port (outcome_of pairs s c f t d v port)) × IsReached pairs s c f t of_user.user d.content port act

    made : Made (Allocates e.user e.port e.granted e.tx e.token)
    made = subst (λ a. IfSome a Made) is (of_decided pairs s c f t d v port Made (λ of_user act known. (of_user, known)))

    again_is : (user : List ℕ) → has_unknown d.content ≡ false → is_repeat user d.content e ≡ true → in_use (allocation_of e) user d.content ≡ RepeatedAllocate e.port e.granted e.token
    again_is user known repeats = rw (known, repeats) refl

-- ---- Later repetitions

-- the outcome of an Allocate of a live five-tuple, by the allocation alone
abbrev live_outcome : Datagram → List ℕ → Allocation → Outcome
live_outcome d user a = if is_dropped d then Drop else in_use a user d.content

-- no response to it names the moment
timeless : (s : Config) (f : FiveTuple) (t u : ℕ) (d : Datagram) (v : Option Verdict) (a : Allocation) (user : List ℕ) → decided_by s f u d v (live_outcome d user a) ≡ decided_by s f t d v (live_outcome d user a)
timeless s f t u d v a user = by_tests (is_dropped d) (has_unknown d.content) (bytes_eq a.user user && bytes_eq a.tx.0 d.content.tx)
  where
    outcome : Bool → Bool → Bool → Outcome
    outcome z b c = if z then Drop else if b then RefuseUnknown else if c then RepeatedAllocate a.port a.granted a.token else Refuse AllocationMismatch

    by_tests : (z b c : Bool) → decided_by s f u d v (outcome z b c) ≡ decided_by s f t d v (outcome z b c)
    by_tests true b c = refl
    by_tests false true c = refl
    by_tests false false true = refl
    by_tests false false false = refl

live_is : (pairs : Bool) (s : Config) (c : Contents) (f : FiveTuple) (t : ℕ) (d : Datagram) (user : List ℕ) (key : Key) (port : Option ℕ) (e : Entry) → is_allocate d ≡ true → fin.get c.entries f ≡ Some e
    → outcome_of pairs s c f t d (Some (Passed user key)) port ≡ live_outcome d user (allocation_of e)
unfolding outcome_of
live_is pairs s c f t d user key port e allocates at = elim (cases_Bool (is_dropped d)) [
  | inl dropped ↦ rw dropped refl
  | inr taken ↦
      let method = (and_parts (is_request d.content.class) (d.content.method == allocate) allocates).1 in
      outcome_is pairs s c f t d user key port (in_time c f t d.content key e at) taken method ∙ allocate_in_use pairs s c f t user d.content port e at
      ∙ sym (ap (λ b. if b then Drop else in_use (allocation_of e) user d.content) taken)
]

pub later_same : (pairs later : Bool) (s : Config) (c again : Contents) (f : FiveTuple) (d : Datagram) (user : List ℕ) (key : Key) (t u : ℕ) (port other : Option ℕ) (x e : Entry)
    → is_allocate d ≡ true → fin.get c.entries f ≡ Some x → fin.get again.entries f ≡ Some e → allocation_of x ≡ allocation_of e
    → decision later s again f u d (Some (Passed user key)) other ≡ decision pairs s c f t d (Some (Passed user key)) port
later_same pairs later s c again f d user key t u port other x e allocates first second same =
    let v : Option Verdict = Some (Passed user key) in
    decision_is later s again f u d v other ∙ ap (decided_by s f u d v) (live_is later s again f u d user key other e allocates second) ∙ timeless s f t u d v (allocation_of e) user
    ∙ sym (decision_is pairs s c f t d v port ∙ ap (decided_by s f t d v) (live_is pairs s c f t d user key port x allocates first ∙ ap (live_outcome d user) same))
