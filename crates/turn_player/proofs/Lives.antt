-- Every life is one run.
use Rattle.std.proofs.Common.{◌≡◌, ◌≤◌, ℕ, List, Bool, true, false, [], ◌∷◌, ◌++◌, Option, Some, None, length, map, max, refl, sym, ap, ◌∙◌, subst, arith, append_assoc, append-nil, option_to_list}
use Rattle.std.proofs.lemmas.List.{map-append}
use Rattle.std.specs.List.{AllByRecursion}
use Rattle.turn_step.specs.Prelude.{Setting, Arrives, Sent}
use Rattle.turn_engine.specs.Prelude.{IsAnswered, IsRun, Taken, accepted, beside_at, last_moment, sent_about}
use Rattle.turn_engine.proofs.Answered.{accepted-append, last_moment-push, run-push}
use Rattle.turn_engine.proofs.Besides.{all-beside, last-beside}
use Rattle.turn_engine.proofs.Lists.{all-append}
use Rattle.turn_history.specs.Prelude.{History}
use Rattle.turn_player.proofs.Growing.{GrowsBy, grows_by_one, push_all, acts-found, acts-handed, all-back, all-found, all-front, at_one, last_moment-append, run-split, sent_by_all-append, sent_by_all-found, sent_by_all-handed, taken-handed}
use Rattle.turn_player.specs.Laws.{AreOneRun, HasAct, IsInTime, IsOneRun, Keeps}
use Rattle.turn_player.specs.Lives.{Closed, Committed, Failed, Goes, Halted, HandedOut, Input, Lasting, Life, NeverFall, NotOpened, Opened, Point, Refused, Running, Said, Sends, Shut, advances, arrivals, arrivals_of, bound_of, commit_stops, ends, fails, formatted, found, goes_on, halted_advances, handing_beside, handing_out, hands_out, is_full, is_halted, is_shut, no_memory, not_opened, opens, recent_of, relays, sent_by_all, sent_in, shut, stays_halted, stays_shut, stops, sure_of, taken_of, takes, unsettled_of}

-- ---- What was handed out

pub sent_in-append : (xs ys : List Said) → sent_in (xs ++ ys) ≡ sent_in xs ++ sent_in ys
sent_in-append [] ys = refl
sent_in-append (Sends out ∷ xs) ys = ap (λ (l : List Sent). out ∷ l) (sent_in-append xs ys)
sent_in-append (Refused why ∷ xs) ys = sent_in-append xs ys
sent_in-append (Committed count ∷ xs) ys = sent_in-append xs ys
sent_in-append (Failed why ∷ xs) ys = sent_in-append xs ys
sent_in-append (Opened c ∷ xs) ys = sent_in-append xs ys
sent_in-append (NotOpened fault ∷ xs) ys = sent_in-append xs ys
sent_in-append (Closed ∷ xs) ys = sent_in-append xs ys

sends_then : (outs : List Sent) (said : List Said) → sent_in said ≡ [] → sent_in (map Sends outs ++ said) ≡ outs
sends_then [] said none = none
sends_then (out ∷ outs) said none = ap (λ (l : List Sent). out ∷ l) (sends_then outs said none)

pub sent_in-handing_out : (outs : List Sent) → sent_in (handing_out outs) ≡ outs
sent_in-handing_out outs = sends_then outs (Committed (length outs) ∷ []) refl

sent_in-beside : (sent : Option Sent) → sent_in (handing_beside sent) ≡ option_to_list sent
sent_in-beside None = refl
sent_in-beside (Some out) = refl

-- ---- The recent arrivals

-- while a server runs, the recent arrivals were answered by its setting
abbrev pub RecentAre : Setting → Point → Type 0
RecentAre s (Running sure recent pairs c m) = IsRun s (accepted (map taken_of sure)) (last_moment 0 (map taken_of sure)) recent
RecentAre s (Halted sure recent m) = Unit {0}
RecentAre s (Shut sure recent m) = Unit {0}

recent_are : (s : Setting) (p : Point) → IsRun s [] 0 (arrivals_of p) → RecentAre s p
recent_are s (Running sure recent pairs c m) run = (run-split s [] 0 (map taken_of sure) recent run).1
recent_are s (Halted sure recent m) run = tt
recent_are s (Shut sure recent m) run = tt

-- those behind data that came before them
recent_behind : (s : Setting) (sure : List Lasting) (recent : List Taken) (pairs : Bool) (c m n : ℕ) (a : Arrives) (sent : Option Sent) → AllByRecursion (λ (x : Taken). x.moment ≡ c) recent
    → RecentAre s (Running sure recent pairs c m) → RecentAre s (Running (sure ++ HandedOut (beside_at c pairs a sent) ∷ []) recent pairs c n)
recent_behind s sure recent pairs c m n a sent at are =
    let x = beside_at c pairs a sent in
    let front = map taken_of sure in
    let same : accepted (front ++ x ∷ []) ≡ accepted front = accepted-append front (x ∷ []) ∙ append-nil (accepted front) in
    subst (λ (l : List Taken). IsRun s (accepted l) (last_moment 0 l) recent) (sym (map-append taken_of sure (HandedOut x ∷ [])))
    (subst (λ (l : History). IsRun s l (last_moment 0 (front ++ x ∷ [])) recent) (sym same)
    (subst (λ (n : ℕ). IsRun s (accepted front) n recent) (sym (last_moment-push 0 front x)) (at_one s (accepted front) (last_moment 0 front) c recent at are)))

-- and with one more
recent_push : (s : Setting) (sure : List Lasting) (recent : List Taken) (pairs : Bool) (c m d n : ℕ) (x : Taken) → last_moment 0 (arrivals sure recent) ≤ x.moment → IsAnswered s (accepted (arrivals sure recent)) x
    → RecentAre s (Running sure recent pairs c m) → RecentAre s (Running sure (recent ++ x ∷ []) pairs d n)
recent_push s sure recent pairs c m d n x late answers are =
    let front = map taken_of sure in
    run-push s (accepted front) (last_moment 0 front) recent x are (subst (λ (n : ℕ). n ≤ x.moment) (last_moment-append 0 front recent) late)
    (subst (λ (l : History). IsAnswered s l x) (accepted-append front recent) answers)

-- ---- What an input makes of a run

abbrev IsFlagged : Taken → Type 0
IsFlagged x = x.failed ≡ false

-- what an input keeps of the arrivals of a point, all of which are one run of this kind
record AreSuch (s : Setting) (IsSuch : List Taken → Type 0) (may_fail : Bool) (p : Point) : Type 0 where
  is_run : IsSuch (arrivals_of p)
  moments : last_moment 0 (arrivals_of p) ≤ bound_of p
  in_time : IsInTime p
  flags : may_fail ≡ false → AllByRecursion IsFlagged (arrivals_of p)
  recent : RecentAre s p

module _ (s : Setting) (IsSuch : List Taken → Type 0) (grows : GrowsBy s IsSuch) (may_fail : Bool) where
  -- the same arrivals
  same_run : (p q : Point) → sure_of q ≡ sure_of p → recent_of q ≡ recent_of p → bound_of p ≤ bound_of q → IsInTime q → RecentAre s q → AreSuch s IsSuch may_fail p → AreSuch s IsSuch may_fail q
  same_run p q sures recents le time are one =
      let whole : arrivals_of q ≡ arrivals_of p = cc in
      record {
        is_run = subst IsSuch (sym whole) one.is_run;
        moments = subst (λ (l : List Taken). last_moment 0 l ≤ bound_of q) (sym whole) (omega (arith, one.moments));
        in_time = time;
        flags = λ never. subst (AllByRecursion IsFlagged) (sym whole) (one.flags never);
        recent = are;
      }

  -- one more arrival
  taken : (sure : List Lasting) (recent : List Taken) (pairs : Bool) (c m t : ℕ) (x : Taken) → m ≤ t → x.moment ≡ max t c → IsAnswered s (accepted (arrivals sure recent)) x
      → (may_fail ≡ false → x.failed ≡ false) → AreSuch s IsSuch may_fail (Running sure recent pairs c m) → AreSuch s IsSuch may_fail (Running sure (recent ++ x ∷ []) pairs (max t c) (max t m))
  taken sure recent pairs c m t x le at answers flag one =
      let whole : arrivals sure recent ++ x ∷ [] ≡ arrivals sure (recent ++ x ∷ []) = append_assoc (map taken_of sure) recent (x ∷ []) in
      let later : last_moment 0 (arrivals sure recent) ≤ x.moment = omega (arith, one.moments, one.in_time) in
      let moment : last_moment 0 (arrivals sure recent ++ x ∷ []) ≡ x.moment = last_moment-push 0 (arrivals sure recent) x in
      let most : last_moment 0 (arrivals sure recent ++ x ∷ []) ≤ max t m = omega (arith, one.moments, one.in_time) in
      record {
        is_run = subst IsSuch whole (grows.push (arrivals sure recent) x one.is_run later answers);
        moments = subst (λ (l : List Taken). last_moment 0 l ≤ max t m) whole most;
        in_time = omega (arith, one.moments, one.in_time);
        flags = λ never. subst (AllByRecursion IsFlagged) whole (all-append IsFlagged (arrivals sure recent) (x ∷ []) (one.flags never) (flag never, tt));
        recent = recent_push s sure recent pairs c m (max t c) (max t m) x later answers one.recent;
      }

  -- an arrival beside what is staged
  relayed : (sure : List Lasting) (recent : List Taken) (pairs : Bool) (c m t : ℕ) (a : Arrives) (o : Option Sent) → m ≤ t → t ≤ c
      → IsAnswered s (accepted (map taken_of sure)) (beside_at c pairs a o) → AllByRecursion (λ (x : Taken). x.moment ≡ c) recent
      → AreSuch s IsSuch may_fail (Running sure recent pairs c m) → AreSuch s IsSuch may_fail (Running (sure ++ HandedOut (beside_at c pairs a o) ∷ []) recent pairs c (max t m))
  relayed sure recent pairs c m t a o later early answers at one =
      let x = beside_at c pairs a o in
      let more = sure ++ HandedOut x ∷ [] in
      let front = map taken_of sure in
      let first : map taken_of more ≡ front ++ x ∷ [] = map-append taken_of sure (HandedOut x ∷ []) in
      let whole : front ++ x ∷ recent ≡ arrivals more recent = sym (append_assoc front (x ∷ []) recent) ∙ ap (λ (l : List Taken). l ++ recent) (sym first) in
      let sooner : last_moment 0 front ≤ last_moment 0 (arrivals sure recent) = grows.front_ends front recent one.is_run in
      let pushed : IsSuch (front ++ x ∷ []) = grows.push front x (grows.front front recent one.is_run) (omega (arith, one.moments, one.in_time)) answers in
      let are : RecentAre s (Running more recent pairs c (max t m)) = recent_behind s sure recent pairs c m (max t m) a o at one.recent in
      record {
        is_run = push_all s IsSuch grows (map taken_of more) recent (subst IsSuch (sym first) pushed) are;
        moments = subst (λ (l : List Taken). last_moment 0 l ≤ max t m) whole (last-beside 0 front recent x (max t m) (omega (arith, one.moments, one.in_time)) (omega (arith, one.moments, one.in_time)));
        in_time = omega (arith, one.moments, one.in_time);
        flags = λ never. subst (AllByRecursion IsFlagged) whole (all-beside IsFlagged front recent x (one.flags never) refl);
        recent = are;
      }

  -- a commit that hands out
  handed : (sure : List Lasting) (recent : List Taken) (pairs : Bool) (c m : ℕ) → AreSuch s IsSuch may_fail (Running sure recent pairs c m)
      → AreSuch s IsSuch may_fail (Running (sure ++ map HandedOut recent) [] pairs c m)
  handed sure recent pairs c m one =
      let whole : arrivals sure recent ≡ arrivals (sure ++ map HandedOut recent) [] =
      sym (append-nil (map taken_of (sure ++ map HandedOut recent)) ∙ map-append taken_of sure (map HandedOut recent) ∙ ap (λ (l : List Taken). map taken_of sure ++ l) (taken-handed recent)) in
      record {
        is_run = subst IsSuch whole one.is_run;
        moments = subst (λ (l : List Taken). last_moment 0 l ≤ m) whole one.moments;
        in_time = one.in_time;
        flags = λ never. subst (AllByRecursion IsFlagged) whole (one.flags never);
        recent = tt;
      }

  -- at rest nothing of what is staged lasts
  settled : (p : Point) → AreSuch s IsSuch may_fail p → AreSuch s IsSuch may_fail (shut p)
  settled (Running sure recent pairs c m) one =
      let front = map taken_of sure in
      let plain : front ≡ arrivals sure [] = sym (append-nil front) in
      let sooner : last_moment 0 front ≤ last_moment 0 (arrivals sure recent) = grows.front_ends front recent one.is_run in
      let most : last_moment 0 front ≤ m = omega (arith, one.moments) in
      record {
        is_run = subst IsSuch plain (grows.front front recent one.is_run);
        moments = subst (λ (l : List Taken). last_moment 0 l ≤ m) plain most;
        in_time = tt;
        flags = λ never. subst (AllByRecursion IsFlagged) plain (all-front IsFlagged front recent (one.flags never));
        recent = tt;
      }
  settled (Halted sure recent m) one = same_run (Halted sure recent m) (Shut sure recent m) refl refl (omega arith) tt tt one
  settled (Shut sure recent m) one = one

  -- an opening of what is shut
  opened : (sure : List Lasting) (recent : List Taken) (pairs : Bool) (m n c : ℕ) → c ≤ m → AreSuch s IsSuch may_fail (Shut sure recent m)
      → AreSuch s IsSuch may_fail (Running (sure ++ found recent n) [] pairs c m)
  opened sure recent pairs m n c le one =
      let front = map taken_of sure in
      let left = map taken_of (found recent n) in
      let plain : front ++ left ≡ arrivals (sure ++ found recent n) [] = sym (append-nil (map taken_of (sure ++ found recent n)) ∙ map-append taken_of sure (found recent n)) in
      let sooner : last_moment 0 (front ++ left) ≤ last_moment 0 (arrivals sure recent) = grows.left_ends front recent n one.is_run in
      let most : last_moment 0 (front ++ left) ≤ m = omega (arith, one.moments) in
      record {
        is_run = subst IsSuch plain (grows.left front recent n one.is_run);
        moments = subst (λ (l : List Taken). last_moment 0 l ≤ m) plain most;
        in_time = le;
        flags = λ never. subst (AllByRecursion IsFlagged) plain
            (all-append IsFlagged front left (all-front IsFlagged front recent (one.flags never)) (all-found IsFlagged recent n (all-back IsFlagged front recent (one.flags never))));
        recent = tt;
      }

  -- ---- One input

  never_failed : (failed : Bool) → (failed ≡ true → may_fail ≡ true) → may_fail ≡ false → failed ≡ false
  never_failed false only never = refl
  never_failed true only never = let may : may_fail ≡ true = only refl in cc

  step : (p q : Point) (input : Input) (inputs : List Input) (said : List Said) → Goes s may_fail p input said q → NeverFall (bound_of p) (input ∷ inputs)
      → AreSuch s IsSuch may_fail p → AreSuch s IsSuch may_fail q
  step _ _ _ _ _ (takes {sure = sure} {recent = recent} {pairs = pairs} {c = c} {m = m} {t = t} {a = a} failed o answers flag room) never one =
      taken sure recent pairs c m t (record { moment = max t c; arrival = a; failed = failed; pairs = pairs; outcome = o }) never.0 refl answers (never_failed failed flag) one
  step _ _ _ _ _ (relays {sure = sure} {recent = recent} {pairs = pairs} {c = c} {m = m} {t = t} {a = a} o early answers at) never one = relayed sure recent pairs c m t a o never.0 early answers at one
  step p q _ _ _ (no_memory room) never one = same_run p q refl refl (omega arith) (omega (arith, one.in_time)) one.recent one
  step p q _ _ _ advances never one = same_run p q refl refl (omega arith) (omega (arith, one.in_time)) one.recent one
  step p q _ _ _ halted_advances never one = same_run p q refl refl (omega arith) tt tt one
  step p q _ _ _ (is_full room) never one = same_run p q refl refl (omega arith) (omega (arith, one.in_time)) one.recent one
  step p q _ _ _ is_halted never one = same_run p q refl refl (omega arith) tt tt one
  step p q _ _ _ is_shut never one = same_run p q refl refl (omega arith) tt tt one
  step _ _ _ _ _ (hands_out {sure = sure} {recent = recent} {pairs = pairs} {c = c} {m = m}) never one = handed sure recent pairs c m one
  step p q _ _ _ (fails why is some) never one = same_run p q refl refl (omega arith) tt tt one
  step _ _ _ _ _ stays_halted never one = one
  step _ _ _ _ _ stays_shut never one = one
  step p _ _ _ _ stops never one = settled p one
  step p q _ _ _ commit_stops never one = same_run p q refl refl (omega arith) tt tt one
  step p _ _ _ _ (opens n pairs c few le late) never one = opened (sure_of p) (unsettled_of p) pairs (bound_of p) n c le (settled p one)
  step p _ _ _ _ (not_opened fault plain) never one = settled p one

-- what lasts stays: there is more of it, with acts, about which what is said was handed out
record Lasts (p q : Point) (said : List Said) : Type 0 where
  more : List Lasting
  sure : sure_of q ≡ sure_of p ++ more
  sent : sent_by_all more ≡ sent_in said
  acts : AllByRecursion HasAct more

no_more : (p q : Point) (said : List Said) → sure_of q ≡ sure_of p → sent_in said ≡ [] → Lasts p q said
no_more p q said same none = record { more = []; sure = same ∙ sym (append-nil (sure_of p)); sent = sym none; acts = tt }

-- after an input no moment that is handed in is before the bound
record Changes (p q : Point) (input : Input) (said : List Said) : Type 0 where
  rest : (inputs : List Input) → NeverFall (bound_of p) (input ∷ inputs) → NeverFall (bound_of q) inputs
  lasts : Lasts p q said

arrived : (m t : ℕ) (inputs : List Input) → (m ≤ t) × NeverFall t inputs → NeverFall (max t m) inputs
arrived m t inputs never = let le = never.0 in let same : t ≡ max t m = omega arith in subst (λ (n : ℕ). NeverFall n inputs) same never.1

changes : (s : Setting) (f : Bool) (p q : Point) (input : Input) (said : List Said) → Goes s f p input said q → Changes p q input said
changes s f p q _ said (takes {m = m} {t = t} failed o answers flag room) = record { rest = arrived m t; lasts = no_more p q said refl refl }
changes s f p q _ _ (relays {pairs = pairs} {c = c} {m = m} {t = t} {a = a} o early answers at) =
    record { rest = arrived m t; lasts = record { more = HandedOut (beside_at c pairs a o) ∷ []; sure = refl; sent = append-nil (option_to_list o) ∙ sym (sent_in-beside o); acts = (tt, tt) } }
changes s f p q _ said (no_memory {m = m} {t = t} room) = record { rest = arrived m t; lasts = no_more p q said refl refl }
changes s f p q _ said (advances {m = m} {t = t}) = record { rest = arrived m t; lasts = no_more p q said refl refl }
changes s f p q _ said (halted_advances {m = m} {t = t}) = record { rest = arrived m t; lasts = no_more p q said refl refl }
changes s f p q _ said (is_full {m = m} {t = t} room) = record { rest = arrived m t; lasts = no_more p q said refl refl }
changes s f p q _ said (is_halted {m = m} {t = t}) = record { rest = arrived m t; lasts = no_more p q said refl refl }
changes s f p q _ said (is_shut {m = m} {t = t}) = record { rest = arrived m t; lasts = no_more p q said refl refl }
changes s f p q _ _ (hands_out {recent = recent}) =
    record { rest = λ inputs never. never; lasts = record { more = map HandedOut recent; sure = refl; sent = sent_by_all-handed recent ∙ sym (sent_in-handing_out (sent_about recent)); acts = acts-handed recent } }
changes s f p q _ said (fails why is some) = record { rest = λ inputs never. never; lasts = no_more p q said refl refl }
changes s f p q _ said stays_halted = record { rest = λ inputs never. never; lasts = no_more p q said refl refl }
changes s f p q _ said stays_shut = record { rest = λ inputs never. never; lasts = no_more p q said refl refl }
changes s f p q _ said stops = record { rest = λ inputs never. never; lasts = no_more p q said refl refl }
changes s f p q _ said commit_stops = record { rest = λ inputs never. never; lasts = no_more p q said refl refl }
changes s f p q _ _ (opens n pairs c few le late) =
    record { rest = λ inputs never. never; lasts = record { more = found (unsettled_of p) n; sure = refl; sent = sent_by_all-found (unsettled_of p) n; acts = acts-found (unsettled_of p) n } }
changes s f p q _ said (not_opened fault plain) = record { rest = λ inputs never. never; lasts = no_more p q said refl refl }

-- ---- All inputs

such_by : (s : Setting) (IsSuch : List Taken → Type 0) (grows : GrowsBy s IsSuch) (f : Bool) (p q : Point) (inputs : List Input) (said : List Said) → Life s f p inputs said q → NeverFall (bound_of p) inputs
    → AreSuch s IsSuch f p → AreSuch s IsSuch f q
such_by s is_such grows f p q _ _ ends never one = one
such_by s is_such grows f p q _ _ (goes_on {input = input} {inputs = inputs} {said = said} {later = later} m goes life) never one =
    such_by s is_such grows f m q inputs later life ((changes s f p m input said goes).rest inputs never) (step s is_such grows f p m input inputs said goes never one)

lasts_by : (s : Setting) (f : Bool) (p q : Point) (inputs : List Input) (said : List Said) → Life s f p inputs said q → Lasts p q said
lasts_by s f p q _ said ends = no_more p q said refl refl
lasts_by s f p q _ _ (goes_on {input = input} {inputs = inputs} {said = said} {later = later} m goes life) =
    let first = (changes s f p m input said goes).lasts in
    let rest = lasts_by s f m q inputs later life in
    record {
      more = first.more ++ rest.more;
      sure = rest.sure ∙ ap (λ (l : List Lasting). l ++ rest.more) first.sure ∙ append_assoc (sure_of p) first.more rest.more;
      sent = sent_by_all-append first.more rest.more ∙ ap (λ (l : List Sent). l ++ sent_by_all rest.more) first.sent ∙ ap (λ (l : List Sent). sent_in said ++ l) rest.sent ∙ sym (sent_in-append said later);
      acts = all-append HasAct first.more rest.more first.acts rest.acts;
    }

pub keeps : (s : Setting) (f : Bool) (p q : Point) (inputs : List Input) (said : List Said) → Life s f p inputs said q → Keeps p q
keeps s f p q inputs said life = let l = lasts_by s f p q inputs said life in record { more = l.more; sure = l.sure }

-- what was handed out lasts
pub sent_lasts : (s : Setting) (f : Bool) (p q : Point) (inputs : List Input) (said : List Said) → Life s f p inputs said q → sent_by_all (sure_of q) ≡ sent_by_all (sure_of p) ++ sent_in said
sent_lasts s f p q inputs said life =
    let l = lasts_by s f p q inputs said life in
    ap sent_by_all l.sure ∙ sent_by_all-append (sure_of p) l.more ∙ ap (λ (l : List Sent). sent_by_all (sure_of p) ++ l) l.sent

pub one_run_by : (s : Setting) (IsSuch : List Taken → Type 0) (grows : GrowsBy s IsSuch) (f : Bool) (p q : Point) (inputs : List Input) (said : List Said) (sent : List Sent)
    → Life s f p inputs said q → NeverFall (bound_of p) inputs → RecentAre s p → AreOneRun IsSuch f sent p → AreOneRun IsSuch f (sent ++ sent_in said) q
one_run_by s is_such grows f p q inputs said sent life never are one =
    let such = such_by s is_such grows f p q inputs said life never (record { is_run = one.is_run; moments = one.moments; in_time = one.in_time; flags = one.flags; recent = are }) in
    let l = lasts_by s f p q inputs said life in
    record {
      is_run = such.is_run;
      sent_is = sent_lasts s f p q inputs said life ∙ ap (λ (l : List Sent). l ++ sent_in said) one.sent_is;
      have_acts = subst (AllByRecursion HasAct) (sym l.sure) (all-append HasAct (sure_of p) l.more one.have_acts l.acts);
      moments = such.moments;
      in_time = such.in_time;
      flags = such.flags;
    }

pub one_run : (s : Setting) (f : Bool) (p q : Point) (inputs : List Input) (said : List Said) (sent : List Sent) → Life s f p inputs said q → NeverFall (bound_of p) inputs
    → IsOneRun s f sent p → IsOneRun s f (sent ++ sent_in said) q
one_run s f p q inputs said sent life never one = one_run_by s (IsRun s [] 0) (grows_by_one s) f p q inputs said sent life never (recent_are s p one.is_run) one

pub begins_life : (s : Setting) (f : Bool) → IsOneRun s f [] formatted
begins_life s f = record { is_run = tt; sent_is = refl; have_acts = tt; moments = omega arith; in_time = tt; flags = λ never. tt }

-- inputs behind a life whose moments never fall
pub behind_life : (s : Setting) (f : Bool) (p q : Point) (inputs more : List Input) (said : List Said) → Life s f p inputs said q → NeverFall (bound_of p) (inputs ++ more) → NeverFall (bound_of q) more
behind_life s f p _ _ more _ ends never = never
behind_life s f p q _ more _ (goes_on {input = input} {inputs = inputs} {said = said} {later = later} m goes life) never =
    behind_life s f m q inputs more later life ((changes s f p m input said goes).rest (inputs ++ more) never)
