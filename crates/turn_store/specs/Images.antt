-- What an image of a store represents.
use Rattle.std.specs.Prelude.{◌⊎◌, ◌≤◌, ◌++◌, ℕ, List}
use Rattle.turn_disk.specs.Prelude.{State, IsImage}
use Rattle.turn_history.specs.Prelude.{Event, History}
use Rattle.turn_record.specs.declared.version.Version.{Version}
use Rattle.turn_record.specs.declared.version.Version.TheVariants.{V2}
use Rattle.turn_store.specs.Areas.{Form, Holds}
use Rattle.turn_store.specs.Encodes.{Encodes}

-- What the image holds, in one of the versions, encodes the history, and the latest moment that is written is the clock.
pub record RepresentsAt (form : Form) (h : History) (clock : ℕ) (image : List ℕ) : Type 0 where
  pub version : Version
  pub snapshot : List ℕ
  pub payloads : List (List ℕ)
  pub holds : Holds version form snapshot payloads image
  pub encodes : Encodes version form.bounds h clock snapshot payloads

-- the image represents the history, at a clock that is not later than a moment
pub record RepresentsBy (form : Form) (h : History) (moment : ℕ) (image : List ℕ) : Type 0 where
  -- the latest moment that is written in the image
  pub clock : ℕ
  pub bounded : clock ≤ moment
  pub stands : RepresentsAt form h clock image

-- the image represents the history before some events, or with them, at a clock that is not later than a moment
abbrev pub EitherBy : Form → History → List Event → ℕ → List ℕ → Type 0
EitherBy form h es moment image = RepresentsBy form h moment image ⊎ RepresentsBy form (h ++ es) moment image

-- the image is of this version: it holds a snapshot and payloads in it
pub record IsInVersion (v : Version) (form : Form) (image : List ℕ) : Type 0 where
  pub snapshot : List ℕ
  pub payloads : List (List ℕ)
  pub holds : Holds v form snapshot payloads image

-- the image is of this version, or of version 2
abbrev pub IsInVersionOr2 : Version → Form → List ℕ → Type 0
IsInVersionOr2 v form image = IsInVersion v form image ⊎ IsInVersion V2 form image

-- each image of a disk in this state has P
abbrev pub EachImage : State → (List ℕ → Type 0) → Type 0
EachImage state P = (image : List ℕ) → IsImage state image → P image
