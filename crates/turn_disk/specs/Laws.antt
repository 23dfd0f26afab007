-- Laws of the definitions.
use Rattle.std.specs.Prelude.{◌≡◌, ◌≢◌, ℕ, List}
use Rattle.turn_disk.specs.Counts.{Rises}
use Rattle.turn_disk.specs.Disk.{State, IsImage, IsSettled}

-- whoever compares the counts before and after a call sees whether it failed
abbrev pub ARisenCountDiffers : Type 0
ARisenCountDiffers = (old new : ℕ) → Rises old new → new ≢ old

-- with nothing pending, a stop leaves the content as it is
abbrev pub ASettledDiskHasOneImage : Type 0
ASettledDiskHasOneImage = (state : State) (image : List ℕ) → IsSettled state → IsImage state image → image ≡ state.bytes
