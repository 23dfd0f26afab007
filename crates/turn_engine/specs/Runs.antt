-- Runs: what a server answers from an opening on, call after call.
use Rattle.std.specs.Prelude.{◌≡◌, ◌≤◌, ◌++◌, ℕ, Bool, List, [], ◌∷◌, None, Option, Result, Ok, Err, false, length, map, option_to_list}
use Rattle.std.specs.List.{AllByRecursion}
use Rattle.turn_cred.specs.declared.handler.AuthHandler as handlers
use Rattle.turn_disk.specs.Prelude.{EachImageSince}
use Rattle.turn_disk.specs.declared.disk.Disk as disks
use Rattle.turn_history.specs.Prelude.{History}
use Rattle.turn_ports.specs.Ports.{has_failed}
use Rattle.turn_ports.specs.declared.generator.RelayAddressGenerator as generators
use Rattle.turn_step.specs.Prelude.{AnswersArrival, Setting, Arrives, StepOutcome, Sent, added, setting_of}
use Rattle.turn_store.specs.Prelude.{Form, EachImage, RepresentsBy, form_of}
use Rattle.turn_store.specs.declared.error.StoreError.{StoreError}
use Rattle.turn_engine.specs.Calls.{Advances, Submits, Commits}
use Rattle.turn_engine.specs.Images.{AtLeast}
use Rattle.turn_engine.specs.Recovering.{RecoversTo}
use Rattle.turn_engine.specs.Relaying.{Relays, beside}
use Rattle.turn_engine.specs.State.{ServerState, now_of}
use Rattle.turn_engine.specs.declared.error.SubmitError.{SubmitError}

-- ---- Answers in a row

-- an arrival that was taken at a moment, whether the generator of ports failed, whether the server reserves ports, and what was
-- answered
pub record Taken : Type 0 where
  -- at which it was answered, in seconds
  pub moment : ℕ
  pub arrival : Arrives
  -- whether the generator of ports failed
  pub failed : Bool
  -- whether the server reserved ports then
  pub pairs : Bool
  pub outcome : StepOutcome

-- an arrival that was answered at the moment t beside what is staged
abbrev pub beside_at : ℕ → Bool → Arrives → Option Sent → Taken
beside_at t pairs a sent = record { moment = t; arrival = a; failed = false; pairs = pairs; outcome = record { change = None; sent = sent } }

-- the events that arrivals added to the history, in order
abbrev pub accepted : List Taken → History
accepted [] = []
accepted (x ∷ xs) = added x.moment x.outcome.change ++ accepted xs

-- the datagrams that are sent about arrivals, in order
abbrev pub sent_about : List Taken → List Sent
sent_about [] = []
sent_about (x ∷ xs) = option_to_list x.outcome.sent ++ sent_about xs

-- an arrival was answered from the history, by the setting but for the flag of reserved ports, which is the arrival's own
abbrev pub IsAnswered : Setting → History → Taken → Type 0
IsAnswered s h x = AnswersArrival (record s { pairs = x.pairs }) h x.moment x.failed x.arrival x.outcome

-- arrivals in a row: moments never fall, none is before the moment t, and each arrival is answered from the history before it
abbrev pub IsRun : Setting → History → ℕ → List Taken → Type 0
IsRun s h t [] = Unit {0}
IsRun s h t (x ∷ xs) = (t ≤ x.moment) × IsAnswered s h x × IsRun s (h ++ added x.moment x.outcome.change) x.moment xs

-- the moment of the last arrival, or t where there is none
abbrev pub last_moment : ℕ → List Taken → ℕ
last_moment t [] = t
last_moment t (x ∷ xs) = last_moment x.moment xs

-- ---- Calls in a row

-- a call of a server, what it answered, and the server after it
pub data ServerCall (D H G : Type 0) : Type 0 where
  Submit : (moment : ℕ) (arrival : Arrives) (result : Result Unit SubmitError) (after : ServerState D H G) → ServerCall D H G
  Commit : (result : Result (List Sent) StoreError) (after : ServerState D H G) → ServerCall D H G
  -- an arrival that was answered beside what is staged, at rest or while a commit waited for its disk: then before that commit
  Relay : (arrival : Arrives) (sent : Option Sent) (after : ServerState D H G) → ServerCall D H G
  -- the clock was brought to a moment
  Advance : (moment : ℕ) (after : ServerState D H G) → ServerCall D H G

-- the server after a call
abbrev pub after_of : {D H G : Type 0} → ServerCall D H G → ServerState D H G
after_of (Submit moment arrival result after) = after
after_of (Commit result after) = after
after_of (Relay arrival sent after) = after
after_of (Advance moment after) = after

-- the server after calls in a row, or the one before them where there are none
abbrev pub last_of : {D H G : Type 0} → ServerState D H G → List (ServerCall D H G) → ServerState D H G
last_of server [] = server
last_of server (x ∷ xs) = last_of (after_of x) xs

-- the datagrams of a commit's result, none of a fault
abbrev pub datagrams_of : Result (List Sent) StoreError → List Sent
datagrams_of (Ok outs) = outs
datagrams_of (Err fault) = []

-- what a call handed out
abbrev pub handed_by : {D H G : Type 0} → ServerCall D H G → List Sent
handed_by (Submit moment arrival result after) = []
handed_by (Commit result after) = datagrams_of result
handed_by (Relay arrival sent after) = option_to_list sent
handed_by (Advance moment after) = []

-- what calls handed out, in order
abbrev pub handed_out : {D H G : Type 0} → List (ServerCall D H G) → List Sent
handed_out [] = []
handed_out (x ∷ xs) = handed_by x ++ handed_out xs

-- of an arrival that was taken: its moment, the arrival, whether the generator's count of failures changed in the call that
-- took it, and whether the server reserves ports
abbrev pub asked : Taken → ℕ × Arrives × Bool × Bool
asked x = (x.moment, x.arrival, x.failed, x.pairs)

-- the arrivals of a run, as `asked` has them: those that were handed out, and those that were taken since the last commit that answered
-- Ok
pub record Asked : Type 0 where
  pub handed : List (ℕ × Arrives × Bool × Bool)
  pub recent : List (ℕ × Arrives × Bool × Bool)

-- the arrivals of a run after a call: one that was submitted is a recent one until a commit, and one that was answered beside these
-- comes before them
abbrev pub asked_after : {D H G : Type 0} → generators.Ghosts G → ServerState D H G → Asked → ServerCall D H G → Asked
asked_after ports old q (Submit moment arrival (Ok done) after) = record {
  handed = q.handed;
  recent = q.recent ++ (moment, arrival, has_failed (ports.failures old.machine.ports) (ports.failures after.machine.ports), old.machine.pairs) ∷ [];
}
asked_after ports old q (Submit moment arrival (Err why) after) = q
asked_after ports old q (Commit (Ok outs) after) = record { handed = q.handed ++ q.recent; recent = [] }
asked_after ports old q (Commit (Err why) after) = q
asked_after ports old q (Relay arrival sent after) = record { handed = q.handed ++ (now_of old, arrival, false, old.machine.pairs) ∷ []; recent = q.recent }
asked_after ports old q (Advance moment after) = q

-- the same after calls in a row
abbrev pub all_asked : {D H G : Type 0} → generators.Ghosts G → ServerState D H G → Asked → List (ServerCall D H G) → Asked
all_asked ports server q [] = q
all_asked ports server q (x ∷ xs) = all_asked ports (after_of x) (asked_after ports server q x) xs

-- a call does what its contract says
abbrev pub IsCall : {D H G : Type 0} → disks.Ghosts D → handlers.Ghosts H → generators.Ghosts G → ServerState D H G → ServerCall D H G → Type 0
IsCall disk handler ports old (Submit moment arrival result after) = Submits disk handler ports old after moment arrival result
IsCall disk handler ports old (Commit result after) = Commits disk old after result
IsCall disk handler ports old (Relay arrival sent after) =
    (old.store.stopped ≡ false) × Relays handler.key_of ports.range (beside old) arrival sent × (after ≡ old)
IsCall disk handler ports old (Advance moment after) = Advances disk ports old after moment

-- calls, each at the server that the one before left
abbrev pub Serves : {D H G : Type 0} → disks.Ghosts D → handlers.Ghosts H → generators.Ghosts G → ServerState D H G → List (ServerCall D H G) → Type 0
Serves disk handler ports server [] = Unit {0}
Serves disk handler ports server (x ∷ xs) = IsCall disk handler ports server x × Serves disk handler ports (after_of x) xs

-- ---- Where a run is

-- where a run is: the arrivals that were taken up to the last commit that answered Ok, with those that were answered beside others
-- since, and the others that were taken since
pub record Place : Type 0 where
  -- up to the last commit that answered Ok, and beside what is staged
  pub handed : List Taken
  -- since then
  pub recent : List Taken

-- the place of a run where nothing was taken
abbrev pub start : Place
start = record { handed = []; recent = [] }

-- the arrivals of a place, as `asked` has them
abbrev pub asked_at : Place → Asked
asked_at p = record { handed = map asked p.handed; recent = map asked p.recent }

-- the history after all arrivals of a place
abbrev pub history_at : History → Place → History
history_at h p = h ++ accepted (p.handed ++ p.recent)

-- how many events of the history at a place belong to what was handed out, or were there at the opening
abbrev pub count_at : History → Place → ℕ
count_at h p = length (h ++ accepted p.handed)

-- the count of failures is the same for all generators of the type
abbrev pub NeverFails : {G : Type 0} → generators.Ghosts G → Type 0
NeverFails {G = G} ports = (old new : G) → ports.failures old ≡ ports.failures new

-- A server is at a place of a run that began after the history h at the moment t: what was taken is one run, each image of
-- the disk has at least what was handed out, and a server that isn't stopped recovers to all of it, has taken so many arrivals
-- since the last commit, and has their datagrams staged. Where the generator never fails, no arrival says that it did.
pub record IsAtPlace {D H G : Type 0} (disk : disks.Ghosts D) (handler : handlers.Ghosts H) (ports : generators.Ghosts G) (s : Setting) (h : History) (t : ℕ) (server : ServerState D H G) (p : Place) : Type 0 where
  pub is_run : IsRun s h t (p.handed ++ p.recent)
  pub in_time : last_moment t (p.handed ++ p.recent) ≤ now_of server
  pub crash_model : disk.follows_crash_model server.store.disk
  pub same_setting : setting_of handler.key_of ports.range server.machine ≡ s
  pub images : EachImage (disk.trace server.store.disk).now (AtLeast (form_of server.store) (history_at h p) (count_at h p) (now_of server))
  pub recovers : server.store.stopped ≡ false → RecoversTo (disk.trace server.store.disk).now server (history_at h p) (count_at h p)
  pub outs : server.store.stopped ≡ false → server.outs ≡ sent_about p.recent
  pub arrivals : server.store.stopped ≡ false → server.arrivals ≡ length p.recent
  pub since : server.store.stopped ≡ false → AllByRecursion (λ x. server.since ≤ x.moment) p.recent
  pub flags : NeverFails ports → AllByRecursion (λ x. x.failed ≡ false) (p.handed ++ p.recent)

-- Calls led from one place to another. The arrivals of the run are those that the calls took, in order, but that one which was answered
-- beside what was staged comes before that, and the generator counts as failed at one exactly where its count differs after the call.
-- What the calls handed out is what the arrivals that were added to the handed ones were answered, in order, each once.
pub record Leads {D H G : Type 0} (disk : disks.Ghosts D) (handler : handlers.Ghosts H) (ports : generators.Ghosts G) (s : Setting) (h : History) (t : ℕ) (server : ServerState D H G) (p : Place) (steps : List (ServerCall D H G)) : Type 0 where
  pub end : Place
  pub is_at : IsAtPlace disk handler ports s h t (last_of server steps) end
  -- the arrivals that were handed out by these calls
  pub more : List Taken
  pub handed : end.handed ≡ p.handed ++ more
  pub sent : handed_out steps ≡ sent_about more
  pub arrivals : asked_at end ≡ all_asked ports server (asked_at p) steps

-- a call that leaves the clock to the arrivals
abbrev pub IsNoAdvance : {D H G : Type 0} → ServerCall D H G → Type 0
IsNoAdvance (Submit moment arrival result after) = Unit {0}
IsNoAdvance (Commit result after) = Unit {0}
IsNoAdvance (Relay arrival sent after) = Unit {0}
IsNoAdvance (Advance moment after) = ⊥

-- calls that hand nothing out, and leave the server as it was but for its machine, and that too where none brings the clock to a moment
pub record IsSilent {D H G : Type 0} (server : ServerState D H G) (steps : List (ServerCall D H G)) : Type 0 where
  pub none : handed_out steps ≡ []
  pub rest : last_of server steps ≡ record server { machine = (last_of server steps).machine }
  pub same : AllByRecursion IsNoAdvance steps → last_of server steps ≡ server

-- the image represents a history that begins with this one
pub record BeginsWith (form : Form) (h : History) (moment : ℕ) (image : List ℕ) : Type 0 where
  -- the events after it
  pub rest : History
  pub stands : RepresentsBy form (h ++ rest) moment image

-- An arrival was answered from the history h, and each image at a moment since old represents a history that begins with h
-- and what the arrival added.
pub record Lasts {D H G : Type 0} (disk : disks.Ghosts D) (s : Setting) (h : History) (x : Taken) (old new : ServerState D H G) : Type 0 where
  pub answered : IsAnswered s h x
  pub images : EachImageSince (disk.trace old.store.disk) (disk.trace new.store.disk) (BeginsWith (form_of old.store) (h ++ added x.moment x.outcome.change) (now_of old))
