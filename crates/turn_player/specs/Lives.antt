-- Lives: arrivals, commits, stops and openings, one after another, from a formatted disk on.
use Rattle.std.specs.Prelude.{◌≡◌, ◌≤◌, ◌<◌, ◌⊎◌, ◌++◌, ℕ, Bool, List, [], ◌∷◌, None, Option, false, true, zero, suc, is_some, if◌then◌else◌, length, map, max, option_to_list}
use Rattle.std.specs.List.{AllByRecursion}
use Rattle.turn_engine.specs.Prelude.{Taken, accepted, beside_at, sent_about}
use Rattle.turn_engine.specs.declared.error.SubmitError.{SubmitError}
use Rattle.turn_engine.specs.declared.error.SubmitError.TheVariants as refusals
use Rattle.turn_history.specs.Prelude.{History, clock}
use Rattle.turn_step.specs.Prelude.{AnswersArrival, Setting, Arrives, StepOutcome, Sent}
use Rattle.turn_store.specs.Prelude.{IsPlain}
use Rattle.turn_store.specs.declared.error.OpenError.{OpenError}
use Rattle.turn_store.specs.declared.error.StoreError.{StoreError}
use Rattle.turn_store.specs.declared.error.StoreError.TheVariants as faults

-- ---- Arrivals that last

-- an arrival whose datagrams were handed out, or whose act an opening found
pub data Lasting : Type 0 where
  HandedOut : Taken → Lasting
  Found : Taken → Lasting

-- the arrival that lasts
abbrev pub taken_of : Lasting → Taken
taken_of (HandedOut x) = x
taken_of (Found x) = x

-- the datagram that was handed out about an arrival, if it was handed out and has one
abbrev pub sent_by : Lasting → List Sent
sent_by (HandedOut x) = option_to_list x.outcome.sent
sent_by (Found x) = []

-- the datagrams that were handed out about arrivals, in order
abbrev pub sent_by_all : List Lasting → List Sent
sent_by_all [] = []
sent_by_all (x ∷ xs) = sent_by x ++ sent_by_all xs

-- what an opening finds of arrivals that may get lost: the first n of those that have an act
abbrev pub found : List Taken → ℕ → List Lasting
found [] n = []
found (x ∷ xs) zero = []
found (x ∷ xs) (suc n) = if is_some x.outcome.change then Found x ∷ found xs n else found xs (suc n)

-- ---- What is asked, and what comes of it

-- What is asked: an arrival at a moment, one at a moment that is answered beside what is staged, that the clock is brought to a moment, a
-- commit, a stop, at rest or inside a commit or an opening, or an opening.
pub data Input : Type 0 where
  Arrive : (moment : ℕ) (arrival : Arrives) → Input
  Relay : (moment : ℕ) (arrival : Arrives) → Input
  Advance : (moment : ℕ) → Input
  Commit : Input
  Stop : Input
  Open : Input

-- what comes of an input: a refusal, a datagram, how many datagrams a commit handed out, a failed commit, an opening with its
-- clock or its fault, or that no store is open
pub data Said : Type 0 where
  Refused : SubmitError → Said
  Sends : Sent → Said
  -- how many datagrams were handed out
  Committed : (count : ℕ) → Said
  Failed : StoreError → Said
  -- the clock, in seconds
  Opened : (clock : ℕ) → Said
  NotOpened : OpenError → Said
  -- no store is open
  Closed : Said

-- what is said of an arrival that is answered with this beside what is staged
abbrev pub handing_beside : Option Sent → List Said
handing_beside sent = map Sends (option_to_list sent)

-- what a commit says that hands this out
abbrev pub handing_out : List Sent → List Said
handing_out outs = map Sends outs ++ Committed (length outs) ∷ []

-- ---- Where a life is

-- Where a life is: a server runs, or is halted after a commit that failed, or all is shut, and no store is open. The sure
-- arrivals last; the recent ones were taken since the last commit, and may get lost. No moment that was handed in is after
-- the bound. A server that runs reserves ports or doesn't, and has a clock.
pub data Point : Type 0 where
  Running : (sure : List Lasting) (recent : List Taken) (pairs : Bool) (clock bound : ℕ) → Point
  Halted : (sure : List Lasting) (recent : List Taken) (bound : ℕ) → Point
  Shut : (sure : List Lasting) (recent : List Taken) (bound : ℕ) → Point

-- the arrivals that last
abbrev pub sure_of : Point → List Lasting
sure_of (Running sure recent pairs c m) = sure
sure_of (Halted sure recent m) = sure
sure_of (Shut sure recent m) = sure

-- the arrivals that were taken since, and may get lost
abbrev pub recent_of : Point → List Taken
recent_of (Running sure recent pairs c m) = recent
recent_of (Halted sure recent m) = recent
recent_of (Shut sure recent m) = recent

-- a moment that none that was handed in is after
abbrev pub bound_of : Point → ℕ
bound_of (Running sure recent pairs c m) = m
bound_of (Halted sure recent m) = m
bound_of (Shut sure recent m) = m

-- What an opening, or a stop at rest, may find or lose: while a server runs, nothing that is staged is on the disk.
abbrev pub unsettled_of : Point → List Taken
unsettled_of (Running sure recent pairs c m) = []
unsettled_of (Halted sure recent m) = recent
unsettled_of (Shut sure recent m) = recent

-- all arrivals that were taken and aren't lost
abbrev pub arrivals : List Lasting → List Taken → List Taken
arrivals sure recent = map taken_of sure ++ recent

-- all arrivals of a point that were taken and aren't lost
abbrev pub arrivals_of : Point → List Taken
arrivals_of p = arrivals (sure_of p) (recent_of p)

-- the history of a point: the events of all arrivals that were taken and aren't lost
abbrev pub history_of : Point → History
history_of p = accepted (arrivals_of p)

-- those events of a point's history that may be on the disk while no call runs
abbrev pub settled_history_of : Point → History
settled_history_of p = accepted (arrivals (sure_of p) (unsettled_of p))

-- how many events of a point's history last
abbrev pub count_of : Point → ℕ
count_of p = length (accepted (map taken_of (sure_of p)))

-- the point after a stop at rest: no store is open
abbrev pub shut : Point → Point
shut p = Shut (sure_of p) (unsettled_of p) (bound_of p)

-- the start of each life: no store is open, nothing was taken, and the moment is 0
abbrev pub formatted : Point
formatted = Shut [] [] 0

-- ---- Lives

-- One input leads from a point to a point, and something is said. An arrival counts at the clock where that is later than its
-- moment. Whether ports are reserved is the same from an opening on up to the next: the flag of the life's setting isn't read.
-- Where the generator of ports can't fail, no answer says that it did.
pub data Goes (s : Setting) (may_fail : Bool) : Point → Input → List Said → Point → Type 0 where
  -- an arrival is taken: its outcome is any answer after the history
  takes : {sure : List Lasting} {recent : List Taken} {pairs : Bool} {c m t : ℕ} {a : Arrives} (failed : Bool) (o : StepOutcome)
      → AnswersArrival (record s { pairs = pairs }) (accepted (arrivals sure recent)) (max t c) failed a o → (failed ≡ true → may_fail ≡ true)
      → length recent < s.config.limits.acts
      → Goes s may_fail (Running sure recent pairs c m) (Arrive t a) []
      (Running sure (recent ++ record { moment = max t c; arrival = a; failed = failed; pairs = pairs; outcome = o } ∷ []) pairs (max t c) (max t m))
  -- An arrival whose moment isn't after the clock is answered at the clock beside what is staged, all of which is of that moment: by what
  -- lasts, as if it had come before that. It changes nothing, and lasts at once.
  relays : {sure : List Lasting} {recent : List Taken} {pairs : Bool} {c m t : ℕ} {a : Arrives} (sent : Option Sent) → t ≤ c
      → AnswersArrival (record s { pairs = pairs }) (accepted (map taken_of sure)) c false a (record { change = None; sent = sent }) → AllByRecursion (λ (x : Taken). x.moment ≡ c) recent
      → Goes s may_fail (Running sure recent pairs c m) (Relay t a) (handing_beside sent) (Running (sure ++ HandedOut (beside_at c pairs a sent) ∷ []) recent pairs c (max t m))
  -- an arrival is refused for memory, and the clock is brought to its moment
  no_memory : {sure : List Lasting} {recent : List Taken} {pairs : Bool} {c m t : ℕ} {a : Arrives} → length recent < s.config.limits.acts
      → Goes s may_fail (Running sure recent pairs c m) (Arrive t a) (Refused refusals.Memory ∷ []) (Running sure recent pairs (max t c) (max t m))
  -- the clock is brought to the moment, where that is later
  advances : {sure : List Lasting} {recent : List Taken} {pairs : Bool} {c m t : ℕ}
      → Goes s may_fail (Running sure recent pairs c m) (Advance t) [] (Running sure recent pairs (max t c) (max t m))
  -- so it is where the store is stopped
  halted_advances : {sure : List Lasting} {recent : List Taken} {m t : ℕ} → Goes s may_fail (Halted sure recent m) (Advance t) [] (Halted sure recent (max t m))
  -- the batch has as many arrivals as it may have
  is_full : {sure : List Lasting} {recent : List Taken} {pairs : Bool} {c m t : ℕ} {a : Arrives} → length recent ≡ s.config.limits.acts
      → Goes s may_fail (Running sure recent pairs c m) (Arrive t a) (Refused refusals.BatchFull ∷ []) (Running sure recent pairs c (max t m))
  -- the store is stopped
  is_halted : {sure : List Lasting} {recent : List Taken} {m t : ℕ} {a : Arrives}
      → Goes s may_fail (Halted sure recent m) (Arrive t a) (Refused refusals.Stopped ∷ []) (Halted sure recent (max t m))
  -- no store is open
  is_shut : {sure : List Lasting} {recent : List Taken} {m t : ℕ} {a : Arrives}
      → Goes s may_fail (Shut sure recent m) (Arrive t a) (Closed ∷ []) (Shut sure recent (max t m))
  -- a commit hands out what was staged, and all arrivals last
  hands_out : {sure : List Lasting} {recent : List Taken} {pairs : Bool} {c m : ℕ}
      → Goes s may_fail (Running sure recent pairs c m) Commit (handing_out (sent_about recent)) (Running (sure ++ map HandedOut recent) [] pairs c m)
  -- a batch without acts can't fail
  fails : {sure : List Lasting} {recent : List Taken} {pairs : Bool} {c m : ℕ} (why : StoreError) → (why ≡ faults.Device) ⊎ (why ≡ faults.Worn) → 1 ≤ length (accepted recent)
      → Goes s may_fail (Running sure recent pairs c m) Commit (Failed why ∷ []) (Halted sure recent m)
  stays_halted : {sure : List Lasting} {recent : List Taken} {m : ℕ} → Goes s may_fail (Halted sure recent m) Commit (Failed faults.Stopped ∷ []) (Halted sure recent m)
  stays_shut : {sure : List Lasting} {recent : List Taken} {m : ℕ} → Goes s may_fail (Shut sure recent m) Commit (Closed ∷ []) (Shut sure recent m)
  -- a stop at rest, or inside an opening
  stops : {p : Point} → Goes s may_fail p Stop [] (shut p)
  -- a stop inside a commit
  commit_stops : {sure : List Lasting} {recent : List Taken} {pairs : Bool} {c m : ℕ} → Goes s may_fail (Running sure recent pairs c m) Stop [] (Shut sure recent m)
  -- an opening finds the first n acts of those that may get lost, and loses the others; the server reserves ports or doesn't
  opens : {p : Point} (n : ℕ) (pairs : Bool) (c : ℕ) → n ≤ length (accepted (unsettled_of p)) → c ≤ bound_of p
      → clock (accepted (map taken_of (sure_of p ++ found (unsettled_of p) n))) ≤ c
      → Goes s may_fail p Open (Opened c ∷ []) (Running (sure_of p ++ found (unsettled_of p) n) [] pairs c (bound_of p))
  -- an opening may fail, by the device or for memory alone
  not_opened : {p : Point} (fault : OpenError) → IsPlain fault → Goes s may_fail p Open (NotOpened fault ∷ []) (shut p)

-- inputs, one after another, lead from a point to a point
pub data Life (s : Setting) (may_fail : Bool) : Point → List Input → List Said → Point → Type 0 where
  ends : {p : Point} → Life s may_fail p [] [] p
  goes_on : {p q : Point} {input : Input} {inputs : List Input} {said later : List Said} (next : Point)
      → Goes s may_fail p input said next → Life s may_fail next inputs later q → Life s may_fail p (input ∷ inputs) (said ++ later) q

-- all that was handed out, in order
abbrev pub sent_in : List Said → List Sent
sent_in [] = []
sent_in (Sends out ∷ said) = out ∷ sent_in said
sent_in (Refused why ∷ said) = sent_in said
sent_in (Committed count ∷ said) = sent_in said
sent_in (Failed why ∷ said) = sent_in said
sent_in (Opened c ∷ said) = sent_in said
sent_in (NotOpened fault ∷ said) = sent_in said
sent_in (Closed ∷ said) = sent_in said

-- no moment is before one that was handed in earlier
abbrev pub NeverFall : ℕ → List Input → Type 0
NeverFall m [] = Unit {0}
NeverFall m (Arrive t a ∷ inputs) = (m ≤ t) × NeverFall t inputs
NeverFall m (Relay t a ∷ inputs) = (m ≤ t) × NeverFall t inputs
NeverFall m (Advance t ∷ inputs) = (m ≤ t) × NeverFall t inputs
NeverFall m (Commit ∷ inputs) = NeverFall m inputs
NeverFall m (Stop ∷ inputs) = NeverFall m inputs
NeverFall m (Open ∷ inputs) = NeverFall m inputs
