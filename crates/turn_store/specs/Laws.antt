-- Laws of the definitions.
use Rattle.std.specs.Prelude.{◌≡◌, ◌≤◌, ℕ, List}
use Rattle.turn_history.specs.Prelude.{History, table}
use Rattle.turn_record.specs.declared.version.Version.{Version}
use Rattle.turn_store.specs.Areas.{Form}
use Rattle.turn_store.specs.Images.{IsInVersion, RepresentsAt}

-- two histories that one image represents have the same clock, and one table at every moment from it on
abbrev pub AnImageHasOneTable : Type 0
AnImageHasOneTable = (first second : Form) (g h : History) (c d : ℕ) (image : List ℕ)
    → RepresentsAt first g c image → RepresentsAt second h d image
    → (first ≡ second) × (c ≡ d) × ((t : ℕ) → c ≤ t → table g t ≡ table h t)

-- an image is of one version and of one form
abbrev pub AnImageHasOneVersion : Type 0
AnImageHasOneVersion = (v w : Version) (first second : Form) (image : List ℕ) → IsInVersion v first image → IsInVersion w second image → (v ≡ w) × (first ≡ second)
