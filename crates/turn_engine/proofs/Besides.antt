-- Arrivals that were answered beside what is staged, in a run: before what is staged, at the clock.
use Rattle.std.proofs.Common.{◌≡◌, ◌≢◌, ◌≤◌, ◌⊎◌, ◌&&◌, ◌||◌, nat_eq, inl, inr, not, ℕ, Bool, true, false, List, [], ◌∷◌, ◌++◌, drop, length, take, Option, None, Result, Ok, refl, sym, ap, ◌∙◌, subst, arith, append_assoc, append-nil}
use Rattle.std.proofs.Math.Seq.{take-length}
use Rattle.std.proofs.lemmas.Bool.{and_from, and_parts, both_ways, eq-eqb, eqb-true}
use Rattle.std.proofs.lemmas.List.{take-append-le, take-append-drop}
use Rattle.std.specs.List.{AllByRecursion, list_any}
use Rattle.turn_disk.specs.Meanwhile as meanwhile
use Rattle.turn_disk.specs.Prelude.{Passes}
use Rattle.turn_history.specs.Prelude.{History, PortsApart, Contents, Endpoint, FiveTuple}
use Rattle.turn_cred.specs.Prelude.{Keys}
use Rattle.turn_step.proofs.Beginnings.{data_same}
use Rattle.turn_step.specs.Prelude.{AnswersArrival, Setting, IsOwner, IsRequestOf, NeedsTable, IsAfter, setting_of, Arrives, Sent, StepOutcome, added, FromPeer}
use Rattle.turn_step.specs.declared.arrival.Outgoing.{Outgoing}
use Rattle.turn_step.specs.declared.answer.Answer.{Answer}
use Rattle.turn_step.specs.declared.answer.Answer.TheVariants.{Data, Reply, Request}
use Rattle.turn_engine.specs.Prelude.{BesideState, HasToWait, IsApart, IsAtClock, IsBehind, Relays, has_no_owner, is_behind, is_later, is_of_another, is_staged, needs_table, none_is_staged, tuples_of, IsAnswered, IsRun, Taken, accepted, beside_at, last_moment}
use Rattle.turn_engine.proofs.Answered.{accepted-append}
use Rattle.turn_engine.proofs.Lists.{all-append, none_left}

-- ---- The moment of what is staged

pub since_late : {since now t : ℕ} → since ≤ now → now ≤ t → since ≤ t
since_late late le = omega (arith, late, le)

-- one more arrival is staged
pub since_taken : (old new arrivals t : ℕ) (recent : List Taken) (x : Taken) → arrivals ≡ length recent → x.moment ≡ t → (arrivals ≡ 0 → new ≡ t) → (1 ≤ arrivals → new ≡ old) → old ≤ t
    → AllByRecursion (λ y. old ≤ y.moment) recent → AllByRecursion (λ y. new ≤ y.moment) (recent ++ x ∷ [])
since_taken old new arrivals t [] x count at none some late all = let is = none count in (omega (arith, is, at), tt)
since_taken old new arrivals t (y ∷ ys) x count at none some late all =
    let is = some (omega (arith, count)) in
    subst (λ (n : ℕ). AllByRecursion (λ (z : Taken). n ≤ z.moment) (y ∷ (ys ++ x ∷ []))) (sym is)
    (all-append (λ (z : Taken). old ≤ z.moment) (y ∷ ys) (x ∷ []) all (omega (arith, late, at), tt))

-- what is staged at the clock is not before it
pub now_before : (arrivals since now : ℕ) (recent : List Taken) → arrivals ≡ length recent → AllByRecursion (λ y. since ≤ y.moment) recent → (arrivals ≡ 0) ⊎ (since ≡ now)
    → AllByRecursion (λ y. now ≤ y.moment) recent
now_before arrivals since now recent count all (inl none) = subst (AllByRecursion (λ (y : Taken). now ≤ y.moment)) (sym (none_left recent (sym count ∙ none))) tt
now_before arrivals since now recent count all (inr is) = subst (λ (n : ℕ). AllByRecursion (λ (y : Taken). n ≤ y.moment) recent) is all

-- ---- Its place

run_later : (s : Setting) (h : History) (t u : ℕ) (xs : List Taken) → AllByRecursion (λ y. u ≤ y.moment) xs → IsRun s h t xs → IsRun s h u xs
run_later s h t u [] all run = tt
run_later s h t u (x ∷ xs) all run = (all.0, run.1, run.2)

pub run-beside : (s : Setting) (h : History) (t : ℕ) (xs ys : List Taken) (m : ℕ) (pairs : Bool) (a : Arrives) (sent : Option Sent) → IsRun s h t (xs ++ ys) → last_moment t xs ≤ m
    → AllByRecursion (λ y. m ≤ y.moment) ys → IsAnswered s (h ++ accepted xs) (beside_at m pairs a sent) → IsRun s h t (xs ++ beside_at m pairs a sent ∷ ys)
run-beside s h t [] ys m pairs a sent run late all answers = (
  late,
  subst (λ (l : History). IsAnswered s l (beside_at m pairs a sent)) (append-nil h) answers,
  subst (λ (l : History). IsRun s l m ys) (sym (append-nil h)) (run_later s h t m ys all run),
)
run-beside s h t (x ∷ xs) ys m pairs a sent run late all answers =
    let more = added x.moment x.outcome.change in (
      run.0,
      run.1,
      run-beside s (h ++ more) x.moment xs ys m pairs a sent run.2 late all
          (subst (λ (l : History). IsAnswered s l (beside_at m pairs a sent)) (sym (append_assoc h more (accepted xs))) answers),
    )

pub front_in_time : (s : Setting) (h : History) (t : ℕ) (xs ys : List Taken) → IsRun s h t (xs ++ ys) → last_moment t xs ≤ last_moment t (xs ++ ys)
front_in_time s h t [] ys run = begins_late s h t ys run
  where
    begins_late : (s : Setting) (h : History) (t : ℕ) (xs : List Taken) → IsRun s h t xs → t ≤ last_moment t xs
    begins_late s h t [] run = omega arith
    begins_late s h t (x ∷ xs) run = let rest = begins_late s (h ++ added x.moment x.outcome.change) x.moment xs run.2 in let le = run.0 in omega arith
front_in_time s h t (x ∷ xs) ys run = front_in_time s (h ++ added x.moment x.outcome.change) x.moment xs ys run.2

pub last-beside : (t : ℕ) (xs ys : List Taken) (x : Taken) (m : ℕ) → last_moment t (xs ++ ys) ≤ m → x.moment ≤ m → last_moment t (xs ++ x ∷ ys) ≤ m
last-beside t [] [] x m late le = le
last-beside t [] (y ∷ ys) x m late le = late
last-beside t (z ∷ zs) ys x m late le = last-beside z.moment zs ys x m late le

pub all-beside : (P : Taken → Type 0) (xs ys : List Taken) (x : Taken) → AllByRecursion P (xs ++ ys) → P x → AllByRecursion P (xs ++ x ∷ ys)
all-beside P [] ys x all one = (one, all)
all-beside P (y ∷ xs) ys x all one = (all.0, all-beside P xs ys x all.1 one)

-- it adds nothing to the history
pub accepted-beside : (xs ys : List Taken) (m : ℕ) (pairs : Bool) (a : Arrives) (sent : Option Sent) → accepted (xs ++ beside_at m pairs a sent ∷ ys) ≡ accepted (xs ++ ys)
accepted-beside xs ys m pairs a sent = accepted-append xs (beside_at m pairs a sent ∷ ys) ∙ sym (accepted-append xs ys)

-- the part of a place's history that is stored
pub stored_part : (h : History) (xs ys : List Taken) → take (length (h ++ accepted xs)) (h ++ accepted (xs ++ ys)) ≡ h ++ accepted xs
stored_part h xs ys =
    let first = h ++ accepted xs in
    let whole : h ++ accepted (xs ++ ys) ≡ first ++ accepted ys = ap (λ (l : History). h ++ l) (accepted-append xs ys) ∙ sym (append_assoc h (accepted xs) (accepted ys)) in
    ap (λ (l : History). take (length first) l) whole ∙ take-append-le (length first) first (accepted ys) (omega arith) ∙ take-length first

-- ---- Five-tuples that are staged

-- whether two five-tuples are the same
abbrev same_as : FiveTuple → FiveTuple → Bool
same_as f g = (nat_eq f.client.ip g.client.ip && nat_eq f.client.port g.client.port) && (nat_eq f.server.ip g.server.ip && nat_eq f.server.port g.server.port)

pub tuple_is : (f g : FiveTuple) → same_as f g ≡ true → f ≡ g
tuple_is f g same =
    let both = and_parts (nat_eq f.client.ip g.client.ip && nat_eq f.client.port g.client.port) (nat_eq f.server.ip g.server.ip && nat_eq f.server.port g.server.port) same in
    let client = and_parts (nat_eq f.client.ip g.client.ip) (nat_eq f.client.port g.client.port) both.0 in
    let server = and_parts (nat_eq f.server.ip g.server.ip) (nat_eq f.server.port g.server.port) both.1 in
    let ip = eqb-true f.client.ip g.client.ip client.0 in
    let port = eqb-true f.client.port g.client.port client.1 in
    let ip_there = eqb-true f.server.ip g.server.ip server.0 in
    let port_there = eqb-true f.server.port g.server.port server.1 in
    (λ i. record { client = record { ip = ip i; port = port i }; server = record { ip = ip_there i; port = port_there i } })

self_is : (n : ℕ) → nat_eq n n ≡ true
self_is n = eq-eqb n n refl

tuple_self : (f : FiveTuple) → same_as f f ≡ true
tuple_self f =
    and_from (nat_eq f.client.ip f.client.ip && nat_eq f.client.port f.client.port) (nat_eq f.server.ip f.server.ip && nat_eq f.server.port f.server.port)
    (and_from (nat_eq f.client.ip f.client.ip) (nat_eq f.client.port f.client.port) (self_is f.client.ip) (self_is f.client.port))
    (and_from (nat_eq f.server.ip f.server.ip) (nat_eq f.server.port f.server.port) (self_is f.server.ip) (self_is f.server.port))

pub tuple_differs : (f g : FiveTuple) → same_as f g ≡ false → f ≢ g
tuple_differs f g apart same = both_ways (same_as f g) apart (subst (λ (x : FiveTuple). same_as f x ≡ true) same (tuple_self f))

neither : (a b : Bool) → (a || b) ≡ false → (a ≡ false) × (b ≡ false)
neither false b is = (refl, is)
neither true b is = cc

one_of : (a b : Bool) → (a || b) ≡ true → (a ≡ true) ⊎ (b ≡ true)
one_of false b is = inr is
one_of true b is = inl refl

pub apart_from : (p : FiveTuple → Bool) (f : FiveTuple) → ((g : FiveTuple) → p g ≡ false → g ≢ f) → (gs : List FiveTuple) → list_any p gs ≡ false → AllByRecursion (λ g. g ≢ f) gs
apart_from p f differ [] none = tt
apart_from p f differ (g ∷ gs) none = let both = neither (p g) (list_any p gs) none in (differ g both.0, apart_from p f differ gs both.1)

pub not_apart : (p : FiveTuple → Bool) (f : FiveTuple) → ((g : FiveTuple) → p g ≡ true → g ≡ f) → (gs : List FiveTuple) → list_any p gs ≡ true → AllByRecursion (λ g. g ≢ f) gs → ⊥
not_apart p f same [] some all = cc
not_apart p f same (g ∷ gs) some all = elim (one_of (p g) (list_any p gs) some) [
  | inl here ↦ all.0 (same g here)
  | inr there ↦ not_apart p f same gs there all.1
]

-- what was answered is left to nobody
pub data_is_answered : {A E : Type 0} {d : Option (Outgoing A)} (r : Result (Answer A) E) (x : Answer A) → r ≡ Ok Request → r ≡ Ok x → x ≡ Data d → ⊥
data_is_answered r x request ok data_is = cc

pub reply_is_answered : {A E : Type 0} {d : Option (Outgoing A)} (r : Result (Answer A) E) (x : Answer A) → r ≡ Ok Request → r ≡ Ok x → x ≡ Reply d → ⊥
reply_is_answered r x request ok reply_is = cc

pub not_both : (b : Bool) → b ≡ false → b ≡ true → ⊥
not_both b off on = both_ways b off on

pub not_false : (b : Bool) → not b ≡ false → b ≡ true
not_false true is = refl
not_false false is = cc

pub not_true : (b : Bool) → not b ≡ true → b ≡ false
not_true false is = refl
not_true true is = cc

-- ---- What is done meanwhile

-- what is done with what is lent is done by the one that it is lent to
pub lent_by : {L W B : Type 0} (beside : L → B) (other : L → W) (passes : B → W → W → Type 0) {old new : L} → Passes (λ o n. (beside n ≡ beside o) × passes (beside o) (other o) (other n)) old new
    → Passes (passes (beside old)) (other old) (other new)
lent_by beside other passes meanwhile.none = meanwhile.none
lent_by beside other passes {new = new} (meanwhile.more {mid = mid} pass rest) =
    meanwhile.more pass.1 (subst (λ b. Passes (passes b) (other mid) (other new)) pass.0 (lent_by beside other passes rest))

-- ---- Answers

-- where no act is staged, all of a history is stored
all_stored : (h : History) (k : ℕ) → [] ≡ tuples_of (drop k h) → h ≡ take k h
all_stored h k none = sym (take-append-drop k h) ∙ ap (λ (l : History). take k h ++ l) (no_events (drop k h) none) ∙ append-nil (take k h)
  where
    no_events : (h : History) → [] ≡ tuples_of h → h ≡ []
    no_events [] none = refl
    no_events (e ∷ h) none = cc

-- data that was answered after every history is answered after the part that is stored
data_stored : {H G : Type 0} (s : Setting) (b : BesideState H G) (a : Arrives) (o : StepOutcome) → ¬ IsRequestOf a → IsApart b.machine.table.contents b.tuples a
    → ((h : History) → IsAfter b.machine h → AnswersArrival s h b.machine.table.moment false a o) → (h : History) (k : ℕ) → IsAfter b.machine h → b.tuples ≡ tuples_of (drop k h)
    → AnswersArrival s (take k h) b.machine.table.moment false a o
data_stored s b a o other (none_is_staged none) answers h k after is =
    subst (λ (l : History). AnswersArrival s l b.machine.table.moment false a o) (all_stored h k (sym none ∙ is)) (answers h after)
data_stored s b a o other (is_of_another owner owns apart) answers h k after is =
    let owned = subst (λ (c : Contents). IsOwner c a owner) after.agrees owns in
    let others = subst (AllByRecursion (λ (g : FiveTuple). g ≢ owner)) is apart in
    (data_same h k s b.machine.config.limits b.machine.table.moment false a owner o after.fitting after.late other owned others).0 (answers h after)

pub relays_data : {H G : Type 0} (keys : H → Keys) (range : G → ℕ × ℕ) (b : BesideState H G) (a : Arrives) (sent : Option Sent) → ¬ NeedsTable (setting_of keys range b.machine) b.machine.table.moment a → IsAtClock b
    → IsApart b.machine.table.contents b.tuples a → ¬ IsRequestOf a
    → ((h : History) → IsAfter b.machine h → AnswersArrival (setting_of keys range b.machine) h b.machine.table.moment false a (record { change = None; sent = sent })) → Relays keys range b a sent
relays_data keys range b a sent needless at_clock apart other answers = record {
  needs_no_table = needless;
  at_clock = at_clock;
  apart = apart;
  answers = data_stored (setting_of keys range b.machine) b a (record { change = None; sent = sent }) other apart answers;
}

-- the answer to a request that no table changes
pub relays_reply : {H G : Type 0} (keys : H → Keys) (range : G → ℕ × ℕ) (b : BesideState H G) (a : Arrives) (sent : Option Sent) → ¬ NeedsTable (setting_of keys range b.machine) b.machine.table.moment a → IsAtClock b
    → IsApart b.machine.table.contents b.tuples a
    → ((h : History) (failed : Bool) → AnswersArrival (setting_of keys range b.machine) h b.machine.table.moment failed a (record { change = None; sent = sent })) → Relays keys range b a sent
relays_reply keys range b a sent needless at_clock apart answers = record {
  needs_no_table = needless;
  at_clock = at_clock;
  apart = apart;
  answers = λ h k after is. answers (take k h) false;
}

-- ---- Ports

-- an arrival at a port needn't wait where no act is staged, or none of the allocation of that port
pub needs_no_wait : {H G : Type 0} (keys : H → Keys) (range : G → ℕ × ℕ) (b : BesideState H G) (port : ℕ) (from there : Endpoint) (bytes id first other : List ℕ) → PortsApart b.machine.table.contents → IsAtClock b
    → IsApart b.machine.table.contents b.tuples (FromPeer port there first other) → ¬ HasToWait keys range b (FromPeer port from bytes id)
needs_no_wait keys range b port from there bytes id first other apart at is (needs_table needs) = needs
needs_no_wait keys range b port from there bytes id first other apart at is (is_later later) = later at
needs_no_wait keys range b port from there bytes id first other apart at (none_is_staged none) (is_behind (has_no_owner some never)) = some none
needs_no_wait keys range b port from there bytes id first other apart at (none_is_staged none) (is_behind (is_staged owner owns staged)) =
    staged (subst (AllByRecursion (λ (g : FiveTuple). g ≢ owner)) (sym none) tt)
needs_no_wait keys range b port from there bytes id first other apart at (is_of_another of owns others) (is_behind (has_no_owner some never)) = never of owns
needs_no_wait keys range b port from there bytes id first other apart at (is_of_another of owns others) (is_behind (is_staged owner has staged)) =
    let same : of ≡ owner = apart of owner owns.0 has.0 owns.1 has.1 (owns.2 ∙ sym has.2) in
    staged (subst (λ (f : FiveTuple). AllByRecursion (λ (g : FiveTuple). g ≢ f) b.tuples) same others)

-- an arrival at a port has to wait where another one has to, since an act is staged
pub behind_at : {c : Contents} {tuples : List FiveTuple} {port : ℕ} {there : Endpoint} {first other : List ℕ} (from : Endpoint) (bytes id : List ℕ) → IsBehind c tuples (FromPeer port there first other)
    → IsBehind c tuples (FromPeer port from bytes id)
behind_at from bytes id (has_no_owner some never) = has_no_owner some never
behind_at from bytes id (is_staged owner owns staged) = is_staged owner owns staged
