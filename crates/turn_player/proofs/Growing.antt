-- Arrivals that last, and runs that grow by arrivals and shrink at openings: by one setting, and by settings in a row.
use Rattle.std.proofs.Common.{if◌then◌else◌, ◌≡◌, ◌≤◌, ℕ, suc, zero, Bool, true, false, List, Option, Some, None, [], ◌∷◌, ◌++◌, map, take, refl, sym, ap, ◌∙◌, subst, arith, append_assoc, append-nil, length, length-append, option_to_list, is_some}
use Rattle.std.specs.List.{AllByRecursion}
use Rattle.turn_history.specs.Prelude.{History}
use Rattle.turn_step.specs.Prelude.{Setting, Change, Sent, added, event_at}
use Rattle.turn_engine.specs.Prelude.{IsRun, Taken, accepted, last_moment, sent_about, IsAnswered}
use Rattle.turn_player.specs.Laws.{HasAct, IsRunBy}
use Rattle.turn_player.specs.Lives.{Found, HandedOut, Lasting, found, sent_by, sent_by_all, taken_of}
use Rattle.turn_engine.proofs.Answered.{accepted-append, last_moment-push, run-push}

-- ---- Arrivals that last

pub taken-handed : (xs : List Taken) → map taken_of (map HandedOut xs) ≡ xs
taken-handed [] = refl
taken-handed (x ∷ xs) = ap (λ (l : List Taken). x ∷ l) (taken-handed xs)

pub sent_by_all-append : (xs ys : List Lasting) → sent_by_all (xs ++ ys) ≡ sent_by_all xs ++ sent_by_all ys
sent_by_all-append [] ys = refl
sent_by_all-append (x ∷ xs) ys = ap (λ (l : List Sent). sent_by x ++ l) (sent_by_all-append xs ys) ∙ sym (append_assoc (sent_by x) (sent_by_all xs) (sent_by_all ys))

pub sent_by_all-handed : (xs : List Taken) → sent_by_all (map HandedOut xs) ≡ sent_about xs
sent_by_all-handed [] = refl
sent_by_all-handed (x ∷ xs) = ap (λ (l : List Sent). option_to_list x.outcome.sent ++ l) (sent_by_all-handed xs)

pub acts-handed : (xs : List Taken) → AllByRecursion HasAct (map HandedOut xs)
acts-handed [] = tt
acts-handed (x ∷ xs) = (tt, acts-handed xs)

-- ---- The first of them that have an act

pub by_option : {A C : Type 0} (o : Option A) → (o ≡ None → C) → ((a : A) → o ≡ Some a → C) → C
by_option None none some = none refl
by_option (Some a) none some = some a refl

-- what holds where nothing is found, and with one more arrival in front, which is found or has no act, holds of what is found
found_induct : (P : List Taken → ℕ → List Lasting → Type 0) → ((xs : List Taken) → P xs zero []) → ((n : ℕ) → P [] (suc n) [])
    → ((x : Taken) (xs : List Taken) (n : ℕ) (c : Change) (ys : List Lasting) → x.outcome.change ≡ Some c → P xs n ys → P (x ∷ xs) (suc n) (Found x ∷ ys))
    → ((x : Taken) (xs : List Taken) (n : ℕ) (ys : List Lasting) → x.outcome.change ≡ None → P xs (suc n) ys → P (x ∷ xs) (suc n) ys) → (xs : List Taken) (n : ℕ) → P xs n (found xs n)
found_induct P zeroth empty some none [] zero = zeroth []
found_induct P zeroth empty some none [] (suc n) = empty n
found_induct P zeroth empty some none (x ∷ xs) zero = zeroth (x ∷ xs)
found_induct P zeroth empty some none (x ∷ xs) (suc n) = by_option x.outcome.change
    (λ is. at false (sym (ap is_some is)) (none x xs n (found xs (suc n)) is (found_induct P zeroth empty some none xs (suc n))))
    (λ c is. at true (sym (ap is_some is)) (some x xs n c (found xs n) is (found_induct P zeroth empty some none xs n)))
  where
    at : (b : Bool) → b ≡ is_some x.outcome.change → P (x ∷ xs) (suc n) (if b then Found x ∷ found xs n else found xs (suc n)) → P (x ∷ xs) (suc n) (found (x ∷ xs) (suc n))
    at b is = subst (λ (b : Bool). P (x ∷ xs) (suc n) (if b then Found x ∷ found xs n else found xs (suc n))) is

-- the events of what is found are the first ones
pub accepted-found : (xs : List Taken) (n : ℕ) → accepted (map taken_of (found xs n)) ≡ take n (accepted xs)
accepted-found = found_induct (λ xs n ys. accepted (map taken_of ys) ≡ take n (accepted xs)) (λ xs. refl) (λ n. refl)
    (λ x xs n c ys is rest. rw is (ap (λ (l : History). event_at x.moment c ∷ l) rest)) (λ x xs n ys is rest. rw is rest)

-- nothing is sent about what is found, and all of it has an act
pub sent_by_all-found : (xs : List Taken) (n : ℕ) → sent_by_all (found xs n) ≡ []
sent_by_all-found = found_induct (λ xs n ys. sent_by_all ys ≡ []) (λ xs. refl) (λ n. refl) (λ x xs n c ys is rest. rest) (λ x xs n ys is rest. rest)

pub acts-found : (xs : List Taken) (n : ℕ) → AllByRecursion HasAct (found xs n)
acts-found = found_induct (λ xs n ys. AllByRecursion HasAct ys) (λ xs. tt) (λ n. tt) (λ x xs n c ys is rest. (ap is_some is, rest)) (λ x xs n ys is rest. rest)

-- what holds of all holds of what is found
pub all-found : (P : Taken → Type 0) (xs : List Taken) (n : ℕ) → AllByRecursion P xs → AllByRecursion P (map taken_of (found xs n))
all-found P = found_induct (λ xs n ys. AllByRecursion P xs → AllByRecursion P (map taken_of ys)) (λ xs all. tt) (λ n all. tt)
    (λ x xs n c ys is rest all. (all.0, rest all.1)) (λ x xs n ys is rest all. rest all.1)

pub all-front : {A : Type 0} (P : A → Type 0) (xs ys : List A) → AllByRecursion P (xs ++ ys) → AllByRecursion P xs
all-front P [] ys all = tt
all-front P (x ∷ xs) ys all = (all.0, all-front P xs ys all.1)

pub all-back : {A : Type 0} (P : A → Type 0) (xs ys : List A) → AllByRecursion P (xs ++ ys) → AllByRecursion P ys
all-back P [] ys all = all
all-back P (x ∷ xs) ys all = all-back P xs ys all.1

-- ---- Runs

pub last_moment-append : (t : ℕ) (xs ys : List Taken) → last_moment t (xs ++ ys) ≡ last_moment (last_moment t xs) ys
last_moment-append t [] ys = refl
last_moment-append t (x ∷ xs) ys = last_moment-append x.moment xs ys

-- a run whose arrivals are all of one moment is one from that moment on
pub at_one : (s : Setting) (h : History) (t c : ℕ) (xs : List Taken) → AllByRecursion (λ (x : Taken). x.moment ≡ c) xs → IsRun s h t xs → IsRun s h c xs
at_one s h t c [] all run = tt
at_one s h t c (x ∷ xs) all run = (let at = all.0 in omega arith, run.1, run.2)

pub run-split : (s : Setting) (h : History) (t : ℕ) (xs ys : List Taken) → IsRun s h t (xs ++ ys) → IsRun s h t xs × IsRun s (h ++ accepted xs) (last_moment t xs) ys
run-split s h t [] ys run = (tt, subst (λ (l : History). IsRun s l t ys) (sym (append-nil h)) run)
run-split s h t (x ∷ xs) ys run =
    let more = added x.moment x.outcome.change in
    let rest = run-split s (h ++ more) x.moment xs ys run.2 in
    ((run.0, run.1, rest.0), subst (λ (l : History). IsRun s l (last_moment x.moment xs) ys) (append_assoc h more (accepted xs)) rest.1)

-- a bound of the last moment holds from each beginning that it bounds
pub bounded : (t u m : ℕ) (xs : List Taken) → t ≤ m → last_moment u xs ≤ m → last_moment t xs ≤ m
bounded t u m [] le most = le
bounded t u m (x ∷ xs) le most = most

-- ---- Runs that grow

-- Arrivals that are answered by a setting are added to such a run. What a stop takes off its end, and what an opening finds of that,
-- leave such a run, which ends no later.
pub record GrowsBy (s : Setting) (IsSuch : List Taken → Type 0) : Type 0 where
  pub push : (xs : List Taken) (x : Taken) → IsSuch xs → last_moment 0 xs ≤ x.moment → IsAnswered s (accepted xs) x → IsSuch (xs ++ x ∷ [])
  pub front : (xs ys : List Taken) → IsSuch (xs ++ ys) → IsSuch xs
  pub front_ends : (xs ys : List Taken) → IsSuch (xs ++ ys) → last_moment 0 xs ≤ last_moment 0 (xs ++ ys)
  pub left : (xs ys : List Taken) (n : ℕ) → IsSuch (xs ++ ys) → IsSuch (xs ++ map taken_of (found ys n))
  pub left_ends : (xs ys : List Taken) (n : ℕ) → IsSuch (xs ++ ys) → last_moment 0 (xs ++ map taken_of (found ys n)) ≤ last_moment 0 (xs ++ ys)

-- a run of that setting behind such a run
pub push_all : (s : Setting) (IsSuch : List Taken → Type 0) → GrowsBy s IsSuch → (xs ys : List Taken) → IsSuch xs → IsRun s (accepted xs) (last_moment 0 xs) ys → IsSuch (xs ++ ys)
push_all s is_such grows xs [] such run = subst is_such (sym (append-nil xs)) such
push_all s is_such grows xs (y ∷ ys) such run =
    let more = added y.moment y.outcome.change in
    let longer : accepted (xs ++ y ∷ []) ≡ accepted xs ++ more = accepted-append xs (y ∷ []) ∙ ap (λ (l : History). accepted xs ++ l) (append-nil more) in
    let rest = subst (λ (l : History). IsRun s l (last_moment 0 (xs ++ y ∷ [])) ys) (sym longer)
    (subst (λ (n : ℕ). IsRun s (accepted xs ++ more) n ys) (sym (last_moment-push 0 xs y)) run.2) in
    subst is_such (append_assoc xs (y ∷ []) ys) (push_all s is_such grows (xs ++ y ∷ []) ys (grows.push xs y such run.0 run.1) rest)

-- ---- By settings in a row

earlier_by : (ss : List Setting) (h : History) (t u : ℕ) (xs : List Taken) → t ≤ u → IsRunBy ss h u xs → IsRunBy ss h t xs
earlier_by ss h t u [] le run = tt
earlier_by ss h t u (x ∷ xs) le run = (run.0, let later = run.1 in omega arith, run.2)

ends_by : (ss : List Setting) (h : History) (t : ℕ) (xs : List Taken) → IsRunBy ss h t xs → t ≤ last_moment t xs
ends_by ss h t [] run = omega arith
ends_by ss h t (x ∷ xs) run =
    omega (arith, run.1, ends_by (run.0.setting ∷ run.0.behind) (h ++ added x.moment x.outcome.change) x.moment xs run.2)

front_by : (ss : List Setting) (h : History) (t : ℕ) (xs ys : List Taken) → IsRunBy ss h t (xs ++ ys) → IsRunBy ss h t xs
front_by ss h t [] ys run = tt
front_by ss h t (x ∷ xs) ys run =
    (run.0, run.1, front_by (run.0.setting ∷ run.0.behind) (h ++ added x.moment x.outcome.change) x.moment xs ys run.2)

front_ends_by : (ss : List Setting) (h : History) (t : ℕ) (xs ys : List Taken) → IsRunBy ss h t (xs ++ ys) → last_moment t xs ≤ last_moment t (xs ++ ys)
front_ends_by ss h t [] ys run = ends_by ss h t ys run
front_ends_by ss h t (x ∷ xs) ys run = front_ends_by (run.0.setting ∷ run.0.behind) (h ++ added x.moment x.outcome.change) x.moment xs ys run.2

-- settings before those of a run
more_by : (before ss : List Setting) (h : History) (t : ℕ) (xs : List Taken) → IsRunBy ss h t xs → IsRunBy (before ++ ss) h t xs
more_by before ss h t [] run = tt
more_by before ss h t (x ∷ xs) run =
    let by = run.0 in (
      record {
        before = before ++ by.before;
        setting = by.setting;
        behind = by.behind;
        is = ap (λ (l : List Setting). before ++ l) by.is ∙ sym (append_assoc before by.before (by.setting ∷ by.behind));
        answered = by.answered;
      },
      run.1,
      run.2,
    )

-- settings behind those of a run
pub longer_by : (ss more : List Setting) (h : History) (t : ℕ) (xs : List Taken) → IsRunBy ss h t xs → IsRunBy (ss ++ more) h t xs
longer_by ss more h t [] run = tt
longer_by ss more h t (x ∷ xs) run =
    let by = run.0 in (
      record {
        before = by.before;
        setting = by.setting;
        behind = by.behind ++ more;
        is = ap (λ (l : List Setting). l ++ more) by.is ∙ append_assoc by.before (by.setting ∷ by.behind) more;
        answered = by.answered;
      },
      run.1,
      longer_by (by.setting ∷ by.behind) more (h ++ added x.moment x.outcome.change) x.moment xs run.2,
    )

-- what is left of a run is one, and ends no later
abbrev IsLeft : List Taken → List Lasting → Type 0
IsLeft xs ys = (ss : List Setting) (h : History) (t : ℕ) → IsRunBy ss h t xs → IsRunBy ss h t (map taken_of ys) × (last_moment t (map taken_of ys) ≤ last_moment t xs)

found_by : (xs : List Taken) (n : ℕ) → IsLeft xs (found xs n)
found_by = found_induct (λ xs n ys. IsLeft xs ys) (λ xs ss h t run. (tt, ends_by ss h t xs run)) (λ n ss h t run. (tt, omega arith)) some none
  where
    some : (x : Taken) (xs : List Taken) (n : ℕ) (c : Change) (ys : List Lasting) → x.outcome.change ≡ Some c → IsLeft xs ys → IsLeft (x ∷ xs) (Found x ∷ ys)
    some x xs n c ys is rest ss h t run =
        let r = rest (run.0.setting ∷ run.0.behind) (h ++ added x.moment x.outcome.change) x.moment run.2 in
        ((run.0, run.1, r.0), r.1)

    none : (x : Taken) (xs : List Taken) (n : ℕ) (ys : List Lasting) → x.outcome.change ≡ None → IsLeft xs ys → IsLeft (x ∷ xs) ys
    none x xs n ys is rest ss h t run =
        let by = run.0 in
        let after = by.setting ∷ by.behind in
        let left = map taken_of ys in
        let r = rest after h x.moment (rw (is, append-nil) at run.2) in
        let far = ends_by after (h ++ added x.moment x.outcome.change) x.moment xs run.2 in (
          subst (λ (l : List Setting). IsRunBy l h t left) (sym by.is) (more_by by.before after h t left (earlier_by after h t x.moment left run.1 r.0)),
          bounded t x.moment (last_moment x.moment xs) left (omega (arith, run.1, far)) r.1,
        )

left_by : (ss : List Setting) (h : History) (t : ℕ) (xs ys : List Taken) (n : ℕ) → IsRunBy ss h t (xs ++ ys) → IsRunBy ss h t (xs ++ map taken_of (found ys n))
left_by ss h t [] ys n run = (found_by ys n ss h t run).0
left_by ss h t (x ∷ xs) ys n run =
    (run.0, run.1, left_by (run.0.setting ∷ run.0.behind) (h ++ added x.moment x.outcome.change) x.moment xs ys n run.2)

left_ends_by : (ss : List Setting) (h : History) (t : ℕ) (xs ys : List Taken) (n : ℕ) → IsRunBy ss h t (xs ++ ys)
    → last_moment t (xs ++ map taken_of (found ys n)) ≤ last_moment t (xs ++ ys)
left_ends_by ss h t [] ys n run = (found_by ys n ss h t run).1
left_ends_by ss h t (x ∷ xs) ys n run = left_ends_by (run.0.setting ∷ run.0.behind) (h ++ added x.moment x.outcome.change) x.moment xs ys n run.2

-- the last of settings is this one
record EndsWith (s : Setting) (ss : List Setting) : Type 0 where
  rest : List Setting
  is : ss ≡ rest ++ s ∷ []

-- the last of settings is the last of those from a place on
end_behind : (s r : Setting) (rest before behind : List Setting) → rest ++ s ∷ [] ≡ before ++ r ∷ behind → EndsWith s (r ∷ behind)
end_behind s r rest [] behind same = record { rest = rest; is = sym same }
end_behind s r [] (b ∷ before) behind same =
    let long : 1 ≡ length (b ∷ (before ++ r ∷ behind)) = ap (λ (l : List Setting). length l) same in
    absurd (omega (arith, long, length-append before (r ∷ behind)))
end_behind s r (q ∷ rest) (b ∷ before) behind same = let tails : rest ++ s ∷ [] ≡ before ++ r ∷ behind = cc in end_behind s r rest before behind tails

push_by : (s : Setting) (ss : List Setting) (h : History) (t : ℕ) (xs : List Taken) (x : Taken) → EndsWith s ss → IsRunBy ss h t xs → last_moment t xs ≤ x.moment
    → IsAnswered s (h ++ accepted xs) x → IsRunBy ss h t (xs ++ x ∷ [])
push_by s ss h t [] x end run late answers =
    (record { before = end.rest; setting = s; behind = []; is = end.is; answered = subst (λ (l : History). IsAnswered s l x) (append-nil h) answers }, late, tt)
push_by s ss h t (y ∷ ys) x end run late answers =
    let by = run.0 in
    let more = added y.moment y.outcome.change in (
      by,
      run.1,
      push_by s (by.setting ∷ by.behind) (h ++ more) y.moment ys x (end_behind s by.setting end.rest by.before by.behind (sym end.is ∙ by.is)) run.2 late
          (subst (λ (l : History). IsAnswered s l x) (sym (append_assoc h more (accepted ys))) answers),
    )

pub grows_by_last : (before : List Setting) (s : Setting) → GrowsBy s (IsRunBy (before ++ s ∷ []) [] 0)
grows_by_last before s =
    let ss = before ++ s ∷ [] in
    record {
      push = λ xs x run late answers. push_by s ss [] 0 xs x (record { rest = before; is = refl }) run late answers;
      front = front_by ss [] 0;
      front_ends = front_ends_by ss [] 0;
      left = left_by ss [] 0;
      left_ends = left_ends_by ss [] 0;
    }

-- ---- By one setting

in_a_row : (s : Setting) (h : History) (t : ℕ) (xs : List Taken) → IsRun s h t xs → IsRunBy (s ∷ []) h t xs
in_a_row s h t [] run = tt
in_a_row s h t (x ∷ xs) run =
    (record { before = []; setting = s; behind = []; is = refl; answered = run.1 }, run.0, in_a_row s (h ++ added x.moment x.outcome.change) x.moment xs run.2)

by_one : (s : Setting) (h : History) (t : ℕ) (xs : List Taken) → IsRunBy (s ∷ []) h t xs → IsRun s h t xs
by_one s h t [] run = tt
by_one s h t (x ∷ xs) run = by_place run.0.before run.0.setting run.0.behind run.0.is run.0.answered (by_one s (h ++ added x.moment x.outcome.change) x.moment xs) run.2
  where
    longer : History
    longer = h ++ added x.moment x.outcome.change

    by_place : (before : List Setting) (r : Setting) (behind : List Setting) → s ∷ [] ≡ before ++ r ∷ behind → IsAnswered r h x → (IsRunBy (s ∷ []) longer x.moment xs → IsRun s longer x.moment xs)
        → IsRunBy (r ∷ behind) longer x.moment xs → IsRun s h t (x ∷ xs)
    by_place [] r behind is answered rest all =
        let same : r ≡ s = cc in
        (run.1, subst (λ (z : Setting). IsAnswered z h x) same answered, rest (subst (λ (l : List Setting). IsRunBy l longer x.moment xs) (sym is) all))
    by_place (b ∷ []) r behind is answered rest all = cc
    by_place (b ∷ c ∷ before) r behind is answered rest all = cc

pub grows_by_one : (s : Setting) → GrowsBy s (IsRun s [] 0)
grows_by_one s =
    let row : GrowsBy s (IsRunBy (s ∷ []) [] 0) = grows_by_last [] s in
    record {
      push = run-push s [] 0;
      front = λ xs ys run. by_one s [] 0 xs (row.front xs ys (in_a_row s [] 0 (xs ++ ys) run));
      front_ends = λ xs ys run. row.front_ends xs ys (in_a_row s [] 0 (xs ++ ys) run);
      left = λ xs ys n run. by_one s [] 0 (xs ++ map taken_of (found ys n)) (row.left xs ys n (in_a_row s [] 0 (xs ++ ys) run));
      left_ends = λ xs ys n run. row.left_ends xs ys n (in_a_row s [] 0 (xs ++ ys) run);
    }
