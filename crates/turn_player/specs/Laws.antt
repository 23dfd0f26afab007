-- What holds of every life.
use Rattle.std.specs.Prelude.{◌≡◌, ◌≤◌, ◌++◌, ℕ, Bool, false, List, [], ◌∷◌, is_some, map, true}
use Rattle.std.specs.List.{AllByRecursion}
use Rattle.turn_cred.specs.declared.handler.AuthHandler as handlers
use Rattle.turn_disk.specs.declared.disk.Disk as disks
use Rattle.turn_engine.specs.Prelude.{BeginsWith, IsAnswered, IsRun, Taken, accepted, last_moment}
use Rattle.turn_history.specs.Prelude.{History}
use Rattle.turn_ports.specs.declared.generator.RelayAddressGenerator as generators
use Rattle.turn_step.specs.Prelude.{Setting, Sent, added}
use Rattle.turn_store.specs.Prelude.{Form, EachImage}
use Rattle.turn_player.specs.Lives.{Found, Halted, HandedOut, Input, Lasting, Life, Point, Running, Said, Shut, arrivals_of, bound_of, formatted, sent_by_all, sent_in, sure_of, taken_of}
use Rattle.turn_player.specs.Worlds.{Stands, World}

-- an arrival that an opening found has an act
abbrev pub HasAct : Lasting → Type 0
HasAct (HandedOut x) = Unit {0}
HasAct (Found x) = is_some x.outcome.change ≡ true

-- a server's clock is not after the moments that were handed in
abbrev pub IsInTime : Point → Type 0
IsInTime (Running sure recent pairs c m) = c ≤ m
IsInTime (Halted sure recent m) = Unit {0}
IsInTime (Shut sure recent m) = Unit {0}

-- an arrival was answered from the history by one of these settings: some are before it, and some behind it
pub record AnsweredBy (settings : List Setting) (h : History) (x : Taken) : Type 0 where
  pub before : List Setting
  pub setting : Setting
  pub behind : List Setting
  pub is : settings ≡ before ++ setting ∷ behind
  pub answered : IsAnswered setting h x

-- Arrivals in a row, by settings in a row: moments never fall, none is before the moment t, and each arrival is answered from the
-- history before it, by the setting of the arrival before it or by one behind that.
abbrev pub IsRunBy : List Setting → History → ℕ → List Taken → Type 0
IsRunBy settings h t [] = Unit {0}
IsRunBy settings h t (x ∷ xs) =
    (by : AnsweredBy settings h x) × (t ≤ x.moment) × IsRunBy (by.setting ∷ by.behind) (h ++ added x.moment x.outcome.change) x.moment xs

-- All arrivals that were taken and aren't lost are, in order, one run of this kind. What was handed out is, in order, what those of
-- them that were handed out were answered. The others that last have an act.
pub record AreOneRun (IsSuch : List Taken → Type 0) (may_fail : Bool) (sent : List Sent) (p : Point) : Type 0 where
  pub is_run : IsSuch (arrivals_of p)
  pub sent_is : sent_by_all (sure_of p) ≡ sent
  pub have_acts : AllByRecursion HasAct (sure_of p)
  pub moments : last_moment 0 (arrivals_of p) ≤ bound_of p
  pub in_time : IsInTime p
  pub flags : may_fail ≡ false → AllByRecursion (λ (x : Taken). x.failed ≡ false) (arrivals_of p)

-- the same of one setting: they are one run from the empty history on
abbrev pub IsOneRun : Setting → Bool → List Sent → Point → Type 0
IsOneRun s = AreOneRun (IsRun s [] 0)

-- what lasts stays: it is the beginning of what lasts later
pub record Keeps (p q : Point) : Type 0 where
  -- the arrivals that last later, and did not before
  pub more : List Lasting
  pub sure : sure_of q ≡ sure_of p ++ more

-- Calls from a formatted disk on made a life that is one run, and at its end the world stands.
pub record IsWhole {D H G : Type 0} (disk : disks.Ghosts D) (handler : handlers.Ghosts H) (ports : generators.Ghosts G) (form : Form) (s : Setting) (may_fail : Bool) (inputs : List Input) (said : List Said) (w : World D H G) : Type 0 where
  pub end : Point
  pub life : Life s may_fail formatted inputs said end
  pub stands : Stands disk handler ports form s w end
  pub one : IsOneRun s may_fail (sent_in said) end

-- An arrival was answered from the history of the arrivals before it, and each image of a disk represents a history that begins
-- with that and what the arrival added.
pub record LastsOnDisk {D : Type 0} (disk : disks.Ghosts D) (form : Form) (s : Setting) (before : List Lasting) (x : Taken) (d : D) : Type 0 where
  pub answered : IsAnswered s (accepted (map taken_of before)) x
  -- a moment that the clock of no image is after
  pub bound : ℕ
  pub images : EachImage (disk.trace d).now (BeginsWith form (accepted (map taken_of before) ++ added x.moment x.outcome.change) bound)
